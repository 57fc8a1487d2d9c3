use Rattle.local_tables.proofs.LearningLaws.{locator_there}
use Rattle.local_tables.proofs.Learns.{learnt_rows, learning_kept}
use Rattle.local_tables.proofs.laws.learning_commits.Goals as goal

pub returns : goal.returns
returns c = record {
  commits = λ own r l new is room few. learning_kept own r l new is room few;
  row = λ own r l new locator is room at_own. learnt_rows own r l new is room locator at_own;
  there = λ own r l new is. locator_there own r l new is;
}

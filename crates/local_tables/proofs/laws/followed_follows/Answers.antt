use Rattle.local_tables.proofs.FollowsLaws.{followed_so, only_followed}
use Rattle.local_tables.proofs.laws.followed_follows.Goals as goal

pub returns : goal.returns
returns c = record {
  follows = λ own old r l learned is individual small fits. followed_so own old r l learned is individual small fits;
  only = λ own old r l learned is individual small fits after left so. only_followed own old r l learned is individual small fits after left so;
}

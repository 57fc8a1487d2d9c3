use Rattle.std.proofs.Common.{◌≡◌, ℕ, ◌+◌, ◌<◌, ◌^◌, List, [], ◌∷◌, ◌++◌, map, take, drop, length, sym, ap, ◌∙◌, arith, append_assoc}
use Rattle.std.proofs.lemmas.List.{map_push}
use Rattle.vtep_base.specs.Reading.{Bytes}
use Rattle.fabric_world.specs.Text as text
use Rattle.fabric_world.specs.Text.{words_from}
use Rattle.fabric_replay.specs.Seen.{seen, word_length}
use Rattle.fabric_replay.proofs.WordsLemmas.{first_word, fit_push}
use Rattle.fabric_replay.proofs.words.words.Goals as goal

pub rest-preserved : goal.rest-preserved
rest-preserved c =
    let column : ℕ = c.rest.column in
    let rest : Bytes = c.rest.rest.now in
    let before : List text.Word = map seen c.rest.found.items in
    let n : ℕ = c.word_length-length.result in
    let counted : n ≡ word_length rest = c.word_length-length.ensures.value in
    let some : 0 < word_length rest = omega (arith, counted, c.if-length-eq0.false) in
    let word : c.split_at.result.0.now ≡ take (word_length rest) rest = c.split_at.ensures.front ∙ ap (λ k. take k rest) counted in
    let behind : c.split_at.result.1.now ≡ drop (word_length rest) rest = c.split_at.ensures.back ∙ ap (λ k. drop k rest) counted in
    let items : map seen c.push.new.self.items ≡ before ++ record { column = column; bytes = c.split_at.result.0.now } ∷ [] =
    ap (map seen) c.in_ok-push.ensures.items ∙ map_push seen c.rest.found.items (record { column = column; bytes = c.split_at.result.0 }) in
    let next : record { column = column; bytes = c.split_at.result.0.now } ∷ words_from (column + n) c.split_at.result.1.now ≡ words_from column rest =
    ap (λ x. record { column = column; bytes = x } ∷ words_from (column + n) c.split_at.result.1.now) word
    ∙ ap (λ k. record { column = column; bytes = take (word_length rest) rest } ∷ words_from (column + k) c.split_at.result.1.now) counted
    ∙ ap (λ x. record { column = column; bytes = take (word_length rest) rest } ∷ words_from (column + word_length rest) x) behind
    ∙ sym (first_word column rest some) in
    let fits : column + length c.split_at.result.0.now < 2 ^ 64 = omega (arith, c.split_at.ensures.front_len, c.split_at.ensures.back_len, c.rest.invariant.columns) in
    record {
      found = ap (λ ws. ws ++ words_from (column + n) c.split_at.result.1.now) items
          ∙ append_assoc before (record { column = column; bytes = c.split_at.result.0.now } ∷ []) (words_from (column + n) c.split_at.result.1.now)
          ∙ ap (λ ws. before ++ ws) next ∙ c.rest.invariant.found;
      fit = rw c.in_ok-push.ensures.items (fit_push c.rest.found.items (record { column = column; bytes = c.split_at.result.0 }) c.rest.invariant.fit fits);
      columns = omega (arith, c.split_at.ensures.back_len, c.rest.invariant.columns);
    }

-- The value of a text, and its depth.
use Rattle.std.proofs.Common.{◌≡◌, ℕ, suc, ◌≤◌, max, List, [], ◌∷◌, Bool, true, false, cond, Option, Some, None, Ordering, Less, Equal, Greater, refl, ap, ap₂, ◌∙◌, subst, arith, append-nil}
use Rattle.std.specs.Prelude.{option_and_then}
use Rattle.std.specs.Ordering.{nat_cmp, match_ordering}
use Rattle.std.specs.Cmp.Lexicographic.{slice_cmp}
use Rattle.std.specs.Str.{is_utf8}
use Rattle.json.specs.Token.{Token}
use Rattle.json.specs.Lex.{tokens}
use Rattle.json.specs.Json as json
use Rattle.json.specs.Tree as trees
use Rattle.json.specs.Tree.{json_tokens}
use Rattle.json.proofs.Unique.Spelling.{value-json_tokens_back}
use Rattle.serde_json.specs.Data.{Data, null, boolean, number, string, array, object, Items, no_items, item, Members, no_members, member, put, depth, items_depth, members_depth}
use Rattle.serde_json.specs.Read.{number_of, of_json, of_items, of_members, max_depth, read}
use Rattle.serde_json.specs.Written.{outline, items_outline, members_outline}
use Rattle.vtep_base.specs.Reading.{Bytes}
use Rattle.rpc_framing.specs.Said.{reading}
use Rattle.rpc_framing.proofs.Parts.{Each, each_map, each_then, any}

mutual
  pub outline_depth : (d : Data) → trees.depth (outline d) ≡ depth d
  outline_depth null = refl
  outline_depth (boolean b) = refl
  outline_depth (number n) = refl
  outline_depth (string s) = refl
  outline_depth (array ds) = ap suc (items_outline_depth ds)
  outline_depth (object ms) = ap suc (members_outline_depth ms)

  items_outline_depth : (ds : Items) → trees.items_depth (items_outline ds) ≡ items_depth ds
  items_outline_depth no_items = refl
  items_outline_depth (item d ds) = ap₂ max (outline_depth d) (items_outline_depth ds)

  members_outline_depth : (ms : Members) → trees.members_depth (members_outline ms) ≡ members_depth ms
  members_outline_depth no_members = refl
  members_outline_depth (member k d ms) = ap₂ max (outline_depth d) (members_outline_depth ms)

put_depth : (n : ℕ) (k : Bytes) (d : Data) (ms : Members) → depth d ≤ n → members_depth ms ≤ n → members_depth (put k d ms) ≤ n
put_depth n k d no_members h g = omega (arith, h)
put_depth n k d (member l e ms) h g = by (slice_cmp nat_cmp k l) (put_depth n k d ms h (omega (arith, g)))
  where
    by : (o : Ordering) → members_depth (put k d ms) ≤ n → members_depth (match_ordering o (member k d (member l e ms)) (member l d ms) (member l e (put k d ms))) ≤ n
    by Less more = omega (arith, h, g)
    by Equal more = omega (arith, h, g)
    by Greater more = omega (arith, g, more)

mutual
  value_depth : (n : ℕ) (j : json.Json) → trees.depth j ≤ n → Each (λ d. depth d ≤ n) (of_json j)
  value_depth n json.null h = omega arith
  value_depth n (json.boolean b) h = omega arith
  value_depth n (json.number s) h = each_map (λ _. Unit {0}) (λ d. depth d ≤ n) number (number_of s) (λ x _. omega arith) (any (number_of s))
  value_depth n (json.string s) h = omega arith
  value_depth n (json.array js) h = each_map (λ ds. items_depth ds ≤ trees.items_depth js) (λ d. depth d ≤ n) array (of_items js) (λ ds g. omega (arith, h, g)) (items_depth_of (trees.items_depth js) js (omega arith))
  value_depth n (json.object ms) h =
      each_map (λ ds. members_depth ds ≤ trees.members_depth ms) (λ d. depth d ≤ n) object (of_members ms no_members) (λ ds g. omega (arith, h, g))
      (members_depth_of (trees.members_depth ms) ms no_members (omega arith) (omega arith))

  items_depth_of : (n : ℕ) (js : json.Items) → trees.items_depth js ≤ n → Each (λ ds. items_depth ds ≤ n) (of_items js)
  items_depth_of n json.no_items h = omega arith
  items_depth_of n (json.item j js) h =
      each_then (λ d. depth d ≤ n) (λ ds. items_depth ds ≤ n) _ (of_json j)
      (λ d g. each_map (λ ds. items_depth ds ≤ n) (λ ds. items_depth ds ≤ n) (item d) (of_items js) (λ ds f. omega (arith, g, f)) (items_depth_of n js (omega (arith, h)))) (value_depth n j (omega (arith, h)))

  members_depth_of : (n : ℕ) (ms : json.Members) (found : Members) → trees.members_depth ms ≤ n → members_depth found ≤ n → Each (λ ds. members_depth ds ≤ n) (of_members ms found)
  members_depth_of n json.no_members found h g = g
  members_depth_of n (json.member k j ms) found h g =
      each_then (λ d. depth d ≤ n) (λ ds. members_depth ds ≤ n) _ (of_json j) (λ d f. members_depth_of n ms (put k d found) (omega (arith, h)) (put_depth n k d found f g)) (value_depth n j (omega (arith, h)))

-- a text that is read has the tokens of some JSON, and its value nests no deeper
pub record IsRead (text : Bytes) (d : Data) : Type 0 where
  pub tree : json.Json
  pub same : tokens text ≡ json_tokens tree
  pub shallow : depth d ≤ trees.depth tree

pub read_tokens : (text : Bytes) (d : Data) → reading text ≡ Some d → IsRead text d
read_tokens text d e = by (json.value max_depth (tokens text)) refl (whole (is_utf8 text) e)
  where
    whole : (t : Bool) → cond t (read text) None ≡ Some d → read text ≡ Some d
    whole true e = e
    whole false e = absurd (cc)

    by : (o : Option (json.Json × List Token)) → json.value max_depth (tokens text) ≡ o → option_and_then of_json (option_and_then (λ p. json.if_last p.0 p.1) o) ≡ Some d → IsRead text d
    by None is e = absurd (cc)
    by (Some (j, [])) is e = record {
      tree = j;
      same = value-json_tokens_back max_depth (tokens text) [] j is ∙ append-nil (json_tokens j);
      shallow = subst (Each (λ d. depth d ≤ trees.depth j)) e (value_depth (trees.depth j) j (omega arith));
    }
    by (Some (j, t ∷ r)) is e = absurd (cc)

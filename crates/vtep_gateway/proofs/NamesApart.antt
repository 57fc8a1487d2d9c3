-- Values with one text are equal.
use Rattle.std.proofs.Common.{◌≡◌, ℕ, pos, negsuc, ◌+◌, ◌≤◌, [], Some, refl, sym, ap, ◌∙◌, arith, append-nil}
use Rattle.std.specs.Prelude.{unwrap_or}
use Rattle.json.specs.Lex.{tokens}
use Rattle.json.specs.Print.{IsNumber}
use Rattle.json.specs.Json as json
use Rattle.json.specs.Tree as tree
use Rattle.json.specs.Tree.{json_tokens, HasNumbers, ItemsHaveNumbers, MembersHaveNumbers}
use Rattle.json.proofs.Printed.Decimals.{IsNumber-decimal, IsNumber-signed_decimal}
use Rattle.json.proofs.Printed.Tokens.{tokens-print}
use Rattle.json.proofs.Printed.Trees.{value-json_tokens, ArePrintable-json_tokens}
use Rattle.serde_json.specs.Data.{Num, unsigned, negative, float, Data, null, boolean, number, string, array, object, Items, no_items, item, Members, no_members, member}
use Rattle.serde_json.specs.Read.{number_of}
use Rattle.serde_json.specs.Written.{number_text, outline, items_outline, members_outline, compact_text}
use Rattle.serde_json.proofs.Numbers.{number_of-decimal, number_of-negative}
use Rattle.serde_json.proofs.Texts.{print-outline}
use Rattle.vtep_gateway.specs.Names.{IsWholeNumber, IsWhole, AreWhole, HasWhole}

some_is : {A : Type 0} (x y : A) → Some x ≡ Some y → x ≡ y
some_is x y e = ap (λ o. unwrap_or o x) e

-- ---- numbers

number_back : (n : Num) → IsWholeNumber n → number_of (number_text n) ≡ Some n
number_back (unsigned n) h = number_of-decimal n h
number_back (negative (negsuc n)) h = number_of-negative n h
number_back (negative (pos n)) h = absurd h
number_back (float x) h = absurd h

is_number : (n : Num) → IsWholeNumber n → IsNumber (number_text n)
is_number (unsigned n) h = IsNumber-decimal n h
is_number (negative (negsuc n)) h = IsNumber-signed_decimal (negsuc n) h
is_number (negative (pos n)) h = absurd h
is_number (float x) h = absurd h

same_number : (m n : Num) → IsWholeNumber m → IsWholeNumber n → number_text m ≡ number_text n → m ≡ n
same_number m n h k e = some_is m n (sym (number_back m h) ∙ ap number_of e ∙ number_back n k)

mutual
  numbers : (d : Data) → IsWhole d → HasNumbers (outline d)
  numbers null h = tt
  numbers (boolean b) h = tt
  numbers (number n) h = is_number n h
  numbers (string s) h = tt
  numbers (array ds) h = items_numbers ds h
  numbers (object ms) h = members_numbers ms h

  items_numbers : (ds : Items) → AreWhole ds → ItemsHaveNumbers (items_outline ds)
  items_numbers no_items h = tt
  items_numbers (item d ds) h = (numbers d h.0, items_numbers ds h.1)

  members_numbers : (ms : Members) → HasWhole ms → MembersHaveNumbers (members_outline ms)
  members_numbers no_members h = tt
  members_numbers (member k d ms) h = (numbers d h.0, members_numbers ms h.1)

-- ---- values

mutual
  same : (a b : Data) → IsWhole a → IsWhole b → outline a ≡ outline b → a ≡ b
  same null null h k e = refl
  same (boolean x) (boolean y) h k e = cc
  same (number m) (number n) h k e = ap number (same_number m n h k (cc))
  same (string s) (string t) h k e = cc
  same (array ds) (array es) h k e = ap array (same_items ds es h k (cc))
  same (object ms) (object ns) h k e = ap object (same_members ms ns h k (cc))
  same _ _ h k e = cc

  same_items : (ds es : Items) → AreWhole ds → AreWhole es → items_outline ds ≡ items_outline es → ds ≡ es
  same_items no_items no_items h k e = refl
  same_items (item d ds) (item f es) h k e =
      let first : d ≡ f = same d f h.0 k.0 (cc) in
      let rest : ds ≡ es = same_items ds es h.1 k.1 (cc) in
      λ i. item (first i) (rest i)
  same_items _ _ h k e = cc

  same_members : (ms ns : Members) → HasWhole ms → HasWhole ns → members_outline ms ≡ members_outline ns → ms ≡ ns
  same_members no_members no_members h k e = refl
  same_members (member n d ms) (member o f ns) h k e =
      let name : n ≡ o = cc in
      let first : d ≡ f = same d f h.0 k.0 (cc) in
      let rest : ms ≡ ns = same_members ms ns h.1 k.1 (cc) in
      λ i. member (name i) (first i) (rest i)
  same_members _ _ h k e = cc

text_tokens : (d : Data) → IsWhole d → tokens (compact_text d) ≡ json_tokens (outline d)
text_tokens d h = ap tokens (sym (print-outline d)) ∙ tokens-print (json_tokens (outline d)) (ArePrintable-json_tokens (outline d) (numbers d h))

tree_back : (j : json.Json) (n : ℕ) → tree.depth j ≤ n → json.value n (json_tokens j) ≡ Some (j, [])
tree_back j n h = ap (json.value n) (sym (append-nil (json_tokens j))) ∙ value-json_tokens j n [] h

same_tree : (i j : json.Json) → json_tokens i ≡ json_tokens j → i ≡ j
same_tree i j e =
    let n = tree.depth i + tree.depth j in
    ap (λ p. p.0) (some_is (i, []) (j, []) (sym (tree_back i n (omega arith)) ∙ ap (json.value n) e ∙ tree_back j n (omega arith)))

pub one_text : (a b : Data) → IsWhole a → IsWhole b → compact_text a ≡ compact_text b → a ≡ b
one_text a b h k e = same a b h k (same_tree (outline a) (outline b) (sym (text_tokens a h) ∙ ap tokens e ∙ text_tokens b k))

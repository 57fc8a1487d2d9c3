-- What is printed is a whole text that is read as the value.
use Rattle.std.proofs.Common.{◌≡◌, ℕ, suc, ◌≤◌, max, Bool, true, false, Some, Result, Ok, Err, OnOk, List, [], ◌∷◌, ◌++◌, codes, fold, refl, sym, ap, ap₂, ◌∙◌, arith, append_assoc, append-nil, rules}
use Rattle.std.specs.Prelude.{option_and_then, IsUtf8}
use Rattle.std.proofs.lemmas.Str.{IsUtf8-append}
use Rattle.json.specs.Token.{Token, end_object}
use Rattle.json.specs.Token as token
use Rattle.json.specs.Lex.{tokens}
use Rattle.json.specs.Json as json
use Rattle.json.specs.Print.{quoted, escape_byte, ends, print, print_from}
use Rattle.json.specs.Tree as trees
use Rattle.json.specs.Tree.{json_tokens, items_tokens, members_tokens}
use Rattle.json.proofs.Numbered.{document-HasNumbers}
use Rattle.json.proofs.Printed.Tokens.{tokens-print, print_from-append}
use Rattle.json.proofs.Printed.Trees.{value-json_tokens, ArePrintable-json_tokens}
use Rattle.json.proofs.Printed.Utf8.{IsUtf8-quoted, IsUtf8-are_ascii}
use Rattle.serde_json.specs.Data.{Data, null, depth}
use Rattle.serde_json.specs.Read.{of_json, max_depth, read}
use Rattle.serde_json.specs.View.{view}
use Rattle.serde_json.specs.declared.value.Value.{Null, the_lemmas}
use Rattle.serde_json.specs.Written.{blank, blank_items, blank_members, IsInOrder}
use Rattle.vtep_base.specs.Reading.{Bytes}
use Rattle.rpc_framing.specs.Said.{Message, reading}
use Rattle.rpc_framing.specs.Written.{called_json, answer_json, message_json}
use Rattle.rpc_framing.specs.Told.{IsWhole, IsTold, AppendsWhole, AppendsTelling, IsPrinted}
use Rattle.rpc_framing.proofs.Nested.{last, last_append, shallow_is_whole}
use Rattle.rpc_framing.proofs.Readings.{is_read}
use Rattle.rpc_framing.proofs.Values.{outline_depth}
use Rattle.rpc_framing.proofs.Told.{told_own}

-- ---- a value by itself

mutual
  blank_depth : (j : json.Json) → trees.depth (blank j) ≡ trees.depth j
  blank_depth json.null = refl
  blank_depth (json.boolean b) = refl
  blank_depth (json.number s) = refl
  blank_depth (json.string s) = refl
  blank_depth (json.array js) = ap suc (blank_items_depth js)
  blank_depth (json.object ms) = ap suc (blank_members_depth ms)

  blank_items_depth : (js : json.Items) → trees.items_depth (blank_items js) ≡ trees.items_depth js
  blank_items_depth json.no_items = refl
  blank_items_depth (json.item j js) = ap₂ max (blank_depth j) (blank_items_depth js)

  blank_members_depth : (ms : json.Members) → trees.members_depth (blank_members ms) ≡ trees.members_depth ms
  blank_members_depth json.no_members = refl
  blank_members_depth (json.member k j ms) = ap₂ max (blank_depth j) (blank_members_depth ms)

all_read : (n : ℕ) (text : Bytes) (j : json.Json) → tokens text ≡ json_tokens j → trees.depth j ≤ n → json.value n (tokens text) ≡ Some (j, [])
all_read n text j same shallow = ap (json.value n) (same ∙ sym (append-nil (json_tokens j))) ∙ value-json_tokens j n [] shallow

pub is_printed : (text : Bytes) (d : Data) → IsUtf8 text → text ≡ print (tokens text) → IsInOrder text d → (depth d ≤ max_depth → read text ≡ Some d) → depth d ≤ max_depth → IsPrinted text d
is_printed text d utf8 compact order back shallow =
    let j = order.0 in
    let same : trees.depth j ≡ depth d = sym (blank_depth j) ∙ ap trees.depth order.2 ∙ outline_depth d in
    record {
      json = j;
      prints = compact ∙ ap print order.1;
      utf8 = utf8;
      numbers = document-HasNumbers text j (ap (option_and_then (λ p. json.if_last p.0 p.1)) (all_read json.max_depth text j order.1 (omega (arith, shallow, same))));
      value = sym (ap (λ o. option_and_then of_json (option_and_then (λ p. json.if_last p.0 p.1) o)) (all_read max_depth text j order.1 (omega (arith, shallow, same)))) ∙ back shallow;
      shallow = omega (arith, same);
    }

-- ---- the text of a value among others

mutual
  ended : (b : Bool) (j : json.Json) (ts : List Token) → fold (λ _ t. ends t) b (json_tokens j ++ ts) ≡ fold (λ _ t. ends t) true ts
  ended b json.null ts = refl
  ended b (json.boolean x) ts = refl
  ended b (json.number s) ts = refl
  ended b (json.string s) ts = refl
  ended b (json.array js) ts = items_ended false js ts
  ended b (json.object ms) ts = members_ended false ms ts

  items_ended : (b : Bool) (js : json.Items) (ts : List Token) → fold (λ _ t. ends t) b (items_tokens js ++ ts) ≡ fold (λ _ t. ends t) true ts
  items_ended b json.no_items ts = refl
  items_ended b (json.item j js) ts = ap (fold (λ _ t. ends t) b) (append_assoc (json_tokens j) (items_tokens js) ts) ∙ ended b j (items_tokens js ++ ts) ∙ items_ended true js ts

  members_ended : (b : Bool) (ms : json.Members) (ts : List Token) → fold (λ _ t. ends t) b (members_tokens ms ++ ts) ≡ fold (λ _ t. ends t) true ts
  members_ended b json.no_members ts = refl
  members_ended b (json.member k j ms) ts =
      ap (fold (λ _ t. ends t) false) (append_assoc (json_tokens j) (members_tokens ms) ts) ∙ ended false j (members_tokens ms ++ ts) ∙ members_ended true ms ts

then_print : (j : json.Json) (ts : List Token) → print_from false (json_tokens j ++ ts) ≡ print (json_tokens j) ++ print_from true ts
then_print j ts =
    let b : fold (λ _ t. ends t) false (json_tokens j) ≡ true = ap (fold (λ _ t. ends t) false) (sym (append-nil (json_tokens j))) ∙ ended false j [] in
    print_from-append false (json_tokens j) ts ∙ ap (λ x. print (json_tokens j) ++ print_from x ts) b

-- ---- the text of a message

abbrev call_of_texts : Bytes → Bytes → Bytes → Bytes
call_of_texts i m p = codes "{\"id\":" ++ (i ++ (codes ",\"method\":" ++ (m ++ (codes ",\"params\":" ++ (p ++ (codes "}" ++ []))))))

abbrev answer_of_texts : Bytes → Bytes → Bytes → Bytes
answer_of_texts e i r = codes "{\"error\":" ++ (e ++ (codes ",\"id\":" ++ (i ++ (codes ",\"result\":" ++ (r ++ (codes "}" ++ []))))))

called_printed : (method : Bytes) (params id : Data) (p i : Bytes) → IsUtf8 method → IsPrinted p params → IsPrinted i id → IsPrinted (call_of_texts i (quoted method) p) (called_json method params id)
unfolding escape_byte print_from
called_printed method params id p i utf8 hp hi =
    let rest = json.member (codes "params") hp.json json.no_members in
    let behind = token.key (codes "method") ∷ token.string method ∷ members_tokens rest in
    record {
      json = json.object (json.member (codes "id") hi.json (json.member (codes "method") (json.string method) rest));
      prints = ap₂ (λ x y. call_of_texts x (quoted method) y) hi.prints hp.prints
          ∙ ap (λ l. codes "{\"id\":" ++ (print (json_tokens hi.json) ++ (codes ",\"method\":" ++ (quoted method ++ (codes ",\"params\":" ++ l))))) (sym (then_print hp.json (end_object ∷ [])))
          ∙ ap (λ l. codes "{\"id\":" ++ l) (sym (then_print hi.json behind));
      utf8 = IsUtf8-append _ _ (IsUtf8-are_ascii (codes "{\"id\":") refl) (IsUtf8-append _ _ hi.utf8 (IsUtf8-append _ _ (IsUtf8-are_ascii (codes ",\"method\":") refl)
          (IsUtf8-append _ _ (IsUtf8-quoted method utf8) (IsUtf8-append _ _ (IsUtf8-are_ascii (codes ",\"params\":") refl) (IsUtf8-append _ _ hp.utf8 (IsUtf8-are_ascii (codes "}") refl))))));
      numbers = (hi.numbers, (tt, (hp.numbers, tt)));
      value = rw (hi.value, hp.value) refl;
      shallow = omega (arith, hi.shallow, hp.shallow);
    }

answer_printed : (result error id : Data) (r e i : Bytes) → IsPrinted r result → IsPrinted e error → IsPrinted i id → IsPrinted (answer_of_texts e i r) (answer_json result error id)
unfolding escape_byte print_from
answer_printed result error id r e i hr he hi =
    let last = json.member (codes "result") hr.json json.no_members in
    let rest = json.member (codes "id") hi.json last in
    record {
      json = json.object (json.member (codes "error") he.json rest);
      prints = ap₂ (λ x y. answer_of_texts x i y) he.prints hr.prints
          ∙ ap (λ x. answer_of_texts (print (json_tokens he.json)) x (print (json_tokens hr.json))) hi.prints
          ∙ ap (λ l. codes "{\"error\":" ++ (print (json_tokens he.json) ++ (codes ",\"id\":" ++ (print (json_tokens hi.json) ++ (codes ",\"result\":" ++ l))))) (sym (then_print hr.json (end_object ∷ [])))
          ∙ ap (λ l. codes "{\"error\":" ++ (print (json_tokens he.json) ++ (codes ",\"id\":" ++ l))) (sym (then_print hi.json (members_tokens last)))
          ∙ ap (λ l. codes "{\"error\":" ++ l) (sym (then_print he.json (members_tokens rest)));
      utf8 = IsUtf8-append _ _ (IsUtf8-are_ascii (codes "{\"error\":") refl) (IsUtf8-append _ _ he.utf8 (IsUtf8-append _ _ (IsUtf8-are_ascii (codes ",\"id\":") refl)
          (IsUtf8-append _ _ hi.utf8 (IsUtf8-append _ _ (IsUtf8-are_ascii (codes ",\"result\":") refl) (IsUtf8-append _ _ hr.utf8 (IsUtf8-are_ascii (codes "}") refl))))));
      numbers = (he.numbers, (hi.numbers, (hr.numbers, tt)));
      value = rw (he.value, hi.value, hr.value) refl;
      shallow = omega (arith, he.shallow, hi.shallow, hr.shallow);
    }

-- texts that end in a brace, each between the others
ends_in_brace : (d : ℕ) (a b c e f g : Bytes) → last d (a ++ (b ++ (c ++ (e ++ (f ++ (g ++ (codes "}" ++ []))))))) ≡ 125
ends_in_brace d a b c e f g =
    last_append d a _ ∙ last_append (last d a) b _ ∙ last_append (last (last d a) b) c _ ∙ last_append (last (last (last d a) b) c) e _ ∙ last_append (last (last (last (last d a) b) c) e) f _
    ∙ last_append (last (last (last (last (last d a) b) c) e) f) g _

whole_of : (tail : Bytes) (d : Data) → IsPrinted (123 ∷ tail) d → depth d ≤ 64 → last 123 tail ≡ 125 → IsWhole (123 ∷ tail) × (reading (123 ∷ tail) ≡ Some d)
whole_of tail d p shallow bracket =
    let text = 123 ∷ tail in
    let j = p.json in
    let same : tokens text ≡ json_tokens j = ap tokens p.prints ∙ tokens-print (json_tokens j) (ArePrintable-json_tokens j p.numbers) in
    let back : read text ≡ Some d = ap (λ o. option_and_then of_json (option_and_then (λ p. json.if_last p.0 p.1) o)) (all_read max_depth text j same (omega (arith, shallow, p.shallow))) ∙ p.value in
    (shallow_is_whole tail j same (omega (arith, shallow, p.shallow)) bracket, is_read text d p.utf8 back)

pub called_whole : (method : Bytes) (params id : Data) (m p i : Bytes) → m ≡ quoted method → IsUtf8 method → (depth params ≤ max_depth → IsPrinted p params) → (depth id ≤ max_depth → IsPrinted i id)
    → depth (called_json method params id) ≤ 64 → IsWhole (call_of_texts i m p) × (reading (call_of_texts i m p) ≡ Some (called_json method params id))
called_whole method params id m p i is utf8 hp hi shallow =
    rw is (whole_of _ (called_json method params id) (called_printed method params id p i utf8 (hp (omega (arith, shallow))) (hi (omega (arith, shallow)))) shallow
    (ends_in_brace 123 (codes "\"id\":") i (codes ",\"method\":") (quoted method) (codes ",\"params\":") p))

pub answer_whole : (result error id : Data) (r e i : Bytes) → (depth result ≤ max_depth → IsPrinted r result) → (depth error ≤ max_depth → IsPrinted e error) → (depth id ≤ max_depth → IsPrinted i id)
    → depth (answer_json result error id) ≤ 64 → IsWhole (answer_of_texts e i r) × (reading (answer_of_texts e i r) ≡ Some (answer_json result error id))
answer_whole result error id r e i hr he hi shallow =
    whole_of _ (answer_json result error id) (answer_printed result error id r e i (hr (omega (arith, shallow))) (he (omega (arith, shallow))) (hi (omega (arith, shallow)))) shallow
    (ends_in_brace 123 (codes "\"error\":") e (codes ",\"id\":") i (codes ",\"result\":") r)

-- ---- of what a call that prints answers

pub view_null : view Null ≡ null
view_null = search (rules, the_lemmas)

pub call_told : {A E : Type 0} (r : Result A E) (old new : Bytes) (m : Message) → OnOk r (depth (message_json m) ≤ 64 → AppendsWhole old new (message_json m)) → OnOk r (IsTold m → AppendsTelling old new m)
call_told (Ok a) old new m whole = λ told.
    (let own = told_own told.0 m told.1 in
    let w = whole own.1 in
    (w.0, w.1, record { whole = w.2; says = (message_json m, w.3, own.0) }))
call_told (Err e) old new m whole = tt

-- Streams by computation.
use Rattle.std.specs.Prelude.{◌≡◌, List, ℕ, None, refl, codes, [], ◌∷◌, ◌++◌, replicate}
use Rattle.std.specs.Str.{is_utf8, chars}
use Rattle.serde_json.specs.Data.{string, array, item, no_items, number, unsigned}
use Rattle.json_notation.specs.Computes.{texts}
use Rattle.rpc_framing.specs.declared.FramingKind.TheVariants.{NotObject, TooDeep, TooLong, BadJson, BadMessage}
use Rattle.rpc_framing.specs.declared.scan.End.TheVariants.{At, Refused}
use Rattle.rpc_framing.specs.Said.{Message, Request}
use Rattle.rpc_framing.specs.Scan.{end_of}
use Rattle.rpc_framing.specs.Streams.{opened, fed, next, Refuses, Gives}
use Rattle.rpc_framing.specs.Told.{IsWhole, Tells}
use Rattle.rpc_framing.specs.Written.{message_text}

too_long : (next (fed (opened 10) (codes "{\"a\":\"bcd\"}"))).answer ≡ Refuses (record { offset = 10; kind = TooLong })
unfolding texts is_utf8 chars
too_long = refl

bad_message : (next (fed (opened 10) (codes "{\"a\":\"bc\"}"))).answer ≡ Refuses (record { offset = 0; kind = BadMessage })
unfolding texts is_utf8 chars
bad_message = refl

bad_json : (next (fed (opened 10) (codes " {]"))).answer ≡ Refuses (record { offset = 1; kind = BadJson })
unfolding texts is_utf8 chars
bad_json = refl

not_object : (next (fed (opened 10) (codes " \n;"))).answer ≡ Refuses (record { offset = 2; kind = NotObject })
not_object = refl

too_deep : (next (fed (opened 1000) (123 ∷ replicate 65 91))).answer ≡ Refuses (record { offset = 64; kind = TooDeep })
too_deep = refl

too_deep_and_too_long : (next (fed (opened 64) (123 ∷ replicate 65 91))).answer ≡ Refuses (record { offset = 64; kind = TooDeep })
too_deep_and_too_long = refl

brackets_in_text : (next (fed (opened 1000) (codes " {\"method\":\"echo\",\"params\":[\"\\\"}[\"],\"id\":1} {"))).answer
    ≡ Gives (Request (codes "echo") (array (item (string (codes "\"}[")) no_items)) (number (unsigned 1)))
unfolding texts is_utf8 chars
brackets_in_text = refl

then_the_rest : (next (next (fed (opened 1000) (codes " {\"method\":\"echo\",\"params\":[\"\\\"}[\"],\"id\":1} {"))).left).left ≡ record { limit = 1000; rest = codes "{"; at = 44; refused = None }
unfolding texts is_utf8 chars
then_the_rest = refl

-- ---- whole texts

brackets_are_alike : IsWhole (codes "{]")
brackets_are_alike = record { begins = (codes "]", refl); ends = refl }

more_is_not_whole : end_of 3 (codes "{} ") ≡ At 2
more_is_not_whole = refl

nested : ℕ → List ℕ
nested n = 123 ∷ (replicate n 91 ++ (replicate n 93 ++ 125 ∷ []))

nests_to_64 : IsWhole (nested 63)
unfolding nested
nests_to_64 = record { begins = (replicate 63 91 ++ (replicate 63 93 ++ 125 ∷ []), refl); ends = refl }

nests_to_65 : end_of 130 (nested 64) ≡ Refused 64 TooDeep
unfolding nested
nests_to_65 = refl

pub echo : Message
echo = Request (codes "echo") (array (item (string (codes "\"}[")) no_items)) (number (unsigned 1))

pub echo_text : List ℕ
echo_text = codes "{\"id\":1,\"method\":\"echo\",\"params\":[\"\\\"}[\"]}"

echo_is_printed : message_text echo ≡ echo_text
unfolding echo echo_text texts
echo_is_printed = refl

pub echo_is_told : Tells echo_text echo
unfolding echo echo_text texts is_utf8 chars
echo_is_told = record { whole = record { begins = (_, refl); ends = refl }; says = (_, refl, refl) }

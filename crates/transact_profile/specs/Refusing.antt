-- Readings that give a value or the word that refuses it.
use Rattle.std.specs.Prelude.{◌≡◌, Bool, true, false, List, [], ◌∷◌, ◌++◌, Option, Some, None, Result, Ok, Err}
use Rattle.vtep_base.specs.Answers.{OrMemory}
use Rattle.vtep_base.specs.declared.words.Word.{Word}
use Rattle.transact_profile.specs.declared.faults.Fault.{Fault}
use Rattle.transact_profile.specs.declared.faults.Fault.TheVariants.{OutOfMemory, Refused}

abbrev pub Reading : Type 0 → Type 0
Reading A = Result A Word

infixl 10 ◌>>?◌
abbrev pub ◌>>?◌ : {A B : Type 0} → Reading A → (A → Reading B) → Reading B
(Ok a) >>? f = f a
(Err w) >>? f = Err w

-- what is there, or else the word
abbrev pub given : {A : Type 0} → Word → Option A → Reading A
given w None = Err w
given w (Some a) = Ok a

-- goes on where the test holds
abbrev pub needs : {A : Type 0} → Word → Bool → Reading A → Reading A
needs w true r = r
needs w false r = Err w

-- one way for a word, and one for a value
abbrev pub by_reading : {A B : Type 0} → Reading A → (Word → B) → (A → B) → B
by_reading (Ok a) refused f = f a
by_reading (Err w) refused f = refused w

-- what f reads of every item behind those that are read, or the first word that refuses one
abbrev pub each_from : {A B : Type 0} → (A → Reading B) → List B → List A → Reading (List B)
each_from f done [] = Ok done
each_from f done (x ∷ xs) = f x >>? λ y. each_from f (done ++ y ∷ []) xs

abbrev pub each : {A B : Type 0} → (A → Reading B) → List A → Reading (List B)
each f = each_from f []

-- ---- what calls give of a reading

abbrev pub refusal_of : Fault → Option Word
refusal_of OutOfMemory = None
refusal_of (Refused w) = Some w

-- the value that is meant as it is seen, the word that is meant, or no memory
abbrev pub ReadsAs : {A B : Type 0} → (A → B) → Result A Fault → Reading B → Type 0
ReadsAs seen (Ok a) meant = meant ≡ Ok (seen a)
ReadsAs seen (Err fault) meant = OrMemory (refusal_of fault) (λ w. meant ≡ Err w)

abbrev pub Reads : {A : Type 0} → Result A Fault → Reading A → Type 0
Reads (Ok a) meant = meant ≡ Ok a
Reads (Err fault) meant = OrMemory (refusal_of fault) (λ w. meant ≡ Err w)

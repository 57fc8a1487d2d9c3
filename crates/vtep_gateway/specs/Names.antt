-- Values whose texts tell them apart: those of messages have no other numbers.
use Rattle.std.specs.Prelude.{◌<◌, ◌^◌, pos, negsuc}
use Rattle.serde_json.specs.Data.{Num, unsigned, negative, float, Data, null, boolean, number, string, array, object, Items, no_items, item, Members, no_members, member}

-- a whole number of 64 bits, which is negative where it is below 0
abbrev pub IsWholeNumber : Num → Type 0
IsWholeNumber (unsigned n) = n < 2 ^ 64
IsWholeNumber (negative (negsuc n)) = n < 2 ^ 63
IsWholeNumber (negative (pos n)) = ⊥
IsWholeNumber (float x) = ⊥

-- each of its numbers is whole
abbrev mutual
  pub IsWhole : Data → Type 0
  IsWhole null = Unit {0}
  IsWhole (boolean b) = Unit {0}
  IsWhole (number n) = IsWholeNumber n
  IsWhole (string s) = Unit {0}
  IsWhole (array ds) = AreWhole ds
  IsWhole (object ms) = HasWhole ms

  pub AreWhole : Items → Type 0
  AreWhole no_items = Unit {0}
  AreWhole (item d ds) = IsWhole d × AreWhole ds

  pub HasWhole : Members → Type 0
  HasWhole no_members = Unit {0}
  HasWhole (member k d ms) = IsWhole d × HasWhole ms

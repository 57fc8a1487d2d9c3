-- Words of refusal (RFC 7047's errors, and those of the methods).
use Rattle.std.specs.Prelude.{codes}
use Rattle.vtep_base.specs.Reading.{Bytes}
use Rattle.vtep_base.specs.declared.words.Word.{Word}
use Rattle.vtep_base.specs.declared.words.Word.TheVariants as word

-- the word as it stands in replies
abbrev pub word_text : Word → Bytes
word_text word.SyntaxError = codes "syntax error"
word_text word.NotSupported = codes "not supported"
word_text word.UnknownTable = codes "unknown table"
word_text word.UnknownColumn = codes "unknown column"
word_text word.PermissionError = codes "permission error"
word_text word.DuplicateUuidName = codes "duplicate uuid-name"
word_text word.UnknownUuidName = codes "unknown uuid-name"
word_text word.ConstraintViolation = codes "constraint violation"
word_text word.DomainError = codes "domain error"
word_text word.RangeError = codes "range error"
word_text word.TimedOut = codes "timed out"
word_text word.Aborted = codes "aborted"
word_text word.ReferentialIntegrityViolation = codes "referential integrity violation"
word_text word.UnknownDatabase = codes "unknown database"
word_text word.DuplicateMonitor = codes "duplicate monitor"
word_text word.ResourcesExhausted = codes "resources exhausted"
word_text word.UnknownMonitor = codes "unknown monitor"
word_text word.UnknownMethod = codes "unknown method"

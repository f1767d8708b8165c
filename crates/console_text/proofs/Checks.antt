-- Lines and the commands that they are, computed.
use mathlib.Core.Path.{◌≡◌, refl}
use mathlib.Core.List.{List, [], ◌∷◌, map}
use Prim.Native.Nat.{ℕ}
use Prim.Native.String as text
use lib.IntN.{pos, negsuc}
use Rattle.std.specs.Prelude.{Option, Some, None}
use Rattle.console_names.specs.declared.Bare.TheVariants.{Trail}
use Rattle.console_names.specs.declared.OfLiteral.TheVariants.{Give, Why}
use Rattle.console_names.specs.declared.OfNumber.TheVariants.{Back}
use Rattle.console_text.specs.declared.Command.{Command}
use Rattle.console_text.specs.declared.Command.TheVariants.{Empty, Comment, Plan, Rule, Bare, Literal, Number}
use Rattle.console_words.specs.Words.{words_from}
use Rattle.console_words.specs.Numbers.{all_digits, value_from, unsigned_of, signed_of}
use Rattle.console_names.specs.Names.{name_of, kind_of, side_of}
use Rattle.console_entries.specs.Entries.{entries_of, all_entries}
use Rattle.console_text.specs.Command.{command_of}
use Rattle.numbers.specs.Text.{bytes}

pub record Row : Type 0 where
  pub line : List ℕ
  pub is : Option Command

abbrev row : text.String → Command → Row
row s c = record { line = bytes s; is = Some c }

abbrev wrong : text.String → Row
wrong s = record { line = bytes s; is = None }

abbrev rows : List Row
rows =
    row "plan 3 1" (Plan 3 1) ∷
    row "  \tgive +0002 \r" (Literal Give (pos 2)) ∷
    row "why -3" (Literal Why (negsuc 2)) ∷
    row "give -9223372036854775808" (Literal Give (negsuc 9223372036854775807)) ∷
    wrong "give 9223372036854775808" ∷
    row "back 18446744073709551615" (Number Back 18446744073709551615) ∷
    wrong "back 18446744073709551616" ∷
    wrong "back -1" ∷
    wrong "give" ∷
    wrong "give 1 2" ∷
    wrong "plans 3 1" ∷
    row "rule 3 sum <= 1 1 1 2 -2" (Rule (record { head = pos 3; kind = 0; side = 1; bound = pos 1; entries = 2 })) ∷
    row "rule 3 max >= -4" (Rule (record { head = pos 3; kind = 3; side = 0; bound = negsuc 3; entries = 0 })) ∷
    wrong "rule 3 sum >= 0 1" ∷
    wrong "rule 3 sum = 0 1 1" ∷
    row "trail" (Bare Trail) ∷
    row "#plan 3 1" Comment ∷
    row " \t\r" Empty ∷
    []

pub lines : map (λ (r : Row). command_of r.line) rows ≡ map (λ (r : Row). r.is) rows
unfolding words_from all_digits value_from unsigned_of signed_of name_of kind_of side_of entries_of all_entries command_of
lines = refl

-- The command that a line is, by its words.
use Rattle.std.specs.Prelude.{Bool, false, cond, List, [], ◌∷◌, ℕ, eqb, ℤ, Option, Some, None, option_and_then}
use Rattle.console_text.specs.declared.Command.{Command}
use Rattle.console_text.specs.declared.Command.TheVariants as command
use Rattle.console_names.specs.declared.Name.{Name}
use Rattle.console_names.specs.declared.Name.TheVariants as name
use Rattle.console_names.specs.Names.{name_of, kind_of, side_of}
use Rattle.console_entries.specs.Entries.{entry_count}
use Rattle.console_words.specs.Numbers.{unsigned_of, signed_of}
use Rattle.console_words.specs.Words.{Word, words}

-- ---- what stands behind a command's name: none where it is not what the command takes

abbrev pub given : {A : Type 0} → Option A → (A → Option Command) → Option Command
given None f = None
given (Some x) f = f x

abbrev pub no_words : List Word → Command → Option Command
no_words [] c = Some c
no_words (w ∷ ws) c = None

abbrev pub only_word : List Word → Option Word
only_word [] = None
only_word (w ∷ []) = Some w
only_word (w ∷ v ∷ ws) = None

abbrev pub only_unsigned : List Word → Option ℕ
only_unsigned ws = option_and_then unsigned_of (only_word ws)

abbrev pub only_signed : List Word → Option ℤ
only_signed ws = option_and_then signed_of (only_word ws)

-- plan N S
abbrev pub plan_of : List Word → Option Command
plan_of [] = None
plan_of (n ∷ ws) = given (unsigned_of n) (λ atoms. given (only_unsigned ws) (λ sentences. Some (command.Plan atoms sentences)))

-- ---- rule HEAD KIND SIDE BOUND W L W L ..

-- head, kind, side, bound and the number of entries
abbrev pub rule : Option ℤ → Option ℕ → Option ℕ → Option ℤ → Option ℕ → Option Command
rule h k s b n =
    given h (λ head. given k (λ kind. given s (λ side. given b (λ bound. given n (λ entries.
    Some (command.Rule (record { head = head; kind = kind; side = side; bound = bound; entries = entries })))))))

abbrev pub rule_of : List Word → Option Command
rule_of [] = None
rule_of (h ∷ []) = None
rule_of (h ∷ k ∷ []) = None
rule_of (h ∷ k ∷ s ∷ []) = None
rule_of (h ∷ k ∷ s ∷ b ∷ ws) = rule (signed_of h) (kind_of k) (side_of s) (signed_of b) (entry_count ws)

-- ---- the command

abbrev pub by_name : Name → List Word → Option Command
by_name name.Plan ws = plan_of ws
by_name name.Rule ws = rule_of ws
by_name (name.Bare c) ws = no_words ws (command.Bare c)
by_name (name.Literal c) ws = given (only_signed ws) (λ l. Some (command.Literal c l))
by_name (name.Number c) ws = given (only_unsigned ws) (λ k. Some (command.Number c k))

-- `#` is 35
abbrev pub comment : Word → Bool
comment [] = false
comment (b ∷ bs) = eqb b 35

abbrev pub of_words : List Word → Option Command
of_words [] = Some command.Empty
of_words (w ∷ ws) = cond (comment w) (Some command.Comment) (given (name_of w) (λ n. by_name n ws))

-- none where the line is wrong
unfoldable pub command_of : List ℕ → Option Command
command_of line = of_words (words line)

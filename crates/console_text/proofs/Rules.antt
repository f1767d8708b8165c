-- A rule has as many entries as its line holds, so that what is counted is what is stored.
use mathlib.Core.Path.{◌≡◌, refl, subst}
use mathlib.Core.Bool.{Bool, true, false, cond}
use mathlib.Core.List.{List, [], ◌∷◌}
use Prim.Native.Nat.{ℕ}
use lib.ListN.{length, drop}
use Rattle.std.specs.Prelude.{Option, Some, None}
use Rattle.console_names.specs.declared.Name.{Name}
use Rattle.console_names.specs.declared.Name.TheVariants as name
use Rattle.console_text.specs.declared.Rule.{Rule}
use Rattle.console_text.specs.declared.Command.{Command}
use Rattle.console_text.specs.declared.Command.TheVariants as command
use Rattle.console_words.specs.Words.{Word, words}
use Rattle.console_words.specs.Numbers.{unsigned_of, signed_of}
use Rattle.console_text.specs.Command.{given, no_words, only_signed, only_unsigned, plan_of, rule_of, comment, by_name, of_words, command_of}
use Rattle.console_entries.specs.Entries.{entries_of, all_entries, entries_in}
use Rattle.console_names.specs.Names.{name_of, kind_of, side_of}

-- a command that is a rule has so many entries
abbrev Counts : ℕ → Command → Type 0
Counts n command.Empty = Unit
Counts n command.Comment = Unit
Counts n (command.Plan a s) = Unit
Counts n (command.Rule r) = r.entries ≡ n
Counts n (command.Bare c) = Unit
Counts n (command.Literal c l) = Unit
Counts n (command.Number c k) = Unit

-- and so has what is told of it
abbrev Told : ℕ → Option Command → Type 0
Told n None = Unit
Told n (Some c) = Counts n c

module _ (n : ℕ) where
  on_given : {A : Type 0} (o : Option A) (f : A → Option Command) → ((x : A) → Told n (f x)) → Told n (given o f)
  on_given (Some x) f h = h x
  on_given None f h = tt

  on_count : (b : Bool) (f : ℕ → Option Command) → Told n (f n) → Told n (given (cond b (Some n) None) f)
  on_count true f h = h
  on_count false f h = tt

  on_none : (ws : List Word) (c : Command) → Counts n c → Told n (no_words ws c)
  on_none [] c h = h
  on_none (w ∷ ws) c h = tt

  on_plan : (ws : List Word) → Told n (plan_of ws)
  on_plan [] = tt
  on_plan (w ∷ ws) = on_given (unsigned_of w) _ (λ a. on_given (only_unsigned ws) _ (λ s. tt))

  on_comment : (b : Bool) (o : Option Command) → Told n o → Told n (cond b (Some command.Comment) o)
  on_comment true o h = tt
  on_comment false o h = h

on_rule : (w : Word) (ws : List Word) → Told (length (entries_of (drop 5 (w ∷ ws)))) (rule_of ws)
on_rule w [] = tt
on_rule w (h ∷ []) = tt
on_rule w (h ∷ k ∷ []) = tt
on_rule w (h ∷ k ∷ s ∷ []) = tt
on_rule w (h ∷ k ∷ s ∷ b ∷ ws) =
    let n = length (entries_of ws) in
    on_given n (signed_of h) _ (λ x. on_given n (kind_of k) _ (λ y. on_given n (side_of s) _ (λ z.
    on_given n (signed_of b) _ (λ u. on_count n (all_entries ws) _ refl))))

on_name : (w : Word) (ws : List Word) (m : Name) → Told (length (entries_of (drop 5 (w ∷ ws)))) (by_name m ws)
on_name w ws name.Plan = on_plan (length (entries_of (drop 5 (w ∷ ws)))) ws
on_name w ws name.Rule = on_rule w ws
on_name w ws (name.Bare c) = on_none (length (entries_of (drop 5 (w ∷ ws)))) ws _ tt
on_name w ws (name.Literal c) = on_given (length (entries_of (drop 5 (w ∷ ws)))) (only_signed ws) _ (λ l. tt)
on_name w ws (name.Number c) = on_given (length (entries_of (drop 5 (w ∷ ws)))) (only_unsigned ws) _ (λ k. tt)

on_words : (ws : List Word) → Told (length (entries_of (drop 5 ws))) (of_words ws)
on_words [] = tt
on_words (w ∷ ws) =
    let n = length (entries_of (drop 5 (w ∷ ws))) in
    on_comment n (comment w) _ (on_given n (name_of w) _ (on_name w ws))

pub rule_counted : (line : List ℕ) (r : Rule) → command_of line ≡ Some (command.Rule r) → r.entries ≡ length (entries_in line)
unfolding command_of
rule_counted line r e = subst (λ (o : Option Command). Told (length (entries_in line)) o) e (on_words (words line))

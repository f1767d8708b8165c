-- A whole line, by its first word.
use Rattle.std.proofs.Common.{◌≡◌, refl, sym, ap, ◌∙◌, ℕ, ◌<◌, arith, List, [], ◌∷◌, length, get_or, eqb}
use borrow.Author.Tests.{eq-eqb, ne_eqb}
use Rattle.std.specs.Prelude.{Option, Some}
use Rattle.console_words.specs.Words.{Word, words}
use Rattle.console_names.specs.declared.Name.{Name}
use Rattle.console_names.specs.Names.{name_of}
use Rattle.console_text.specs.declared.Command.TheVariants as command
use Rattle.console_text.specs.Command.{given, by_name, comment, of_words, command_of}

first_byte : (w : Word) → 0 < length w → comment w ≡ eqb (get_or w 0 0) 35
first_byte [] h = let b : ⊥ = omega arith in absurd b
first_byte (b ∷ w) h = refl

module _ (line : List ℕ) where
  pub empty_line : words line ≡ [] → Some command.Empty ≡ command_of line
  unfolding command_of
  empty_line e = sym (ap of_words e)

  -- a first word, and the others
  module _ {word : Word} {others : List Word} (words_are : words line ≡ word ∷ others) (some : 0 < length word) where
    pub comment_line : get_or word 0 0 ≡ 35 → Some command.Comment ≡ command_of line
    unfolding command_of
    comment_line e = sym (ap of_words words_are ∙ rw (first_byte word some ∙ eq-eqb _ _ e))

    pub named_line : (get_or word 0 0 ≡ 35 → ⊥) → (m : Option Name) → m ≡ name_of word → given m (λ n. by_name n others) ≡ command_of line
    unfolding command_of
    named_line not_hash m e = sym (ap of_words words_are ∙ rw (first_byte word some ∙ ne_eqb _ _ not_hash, sym e))

-- A sentence in words: where they are in range and no fold over them wraps, the extreme on words stands for the extreme of the rule.
use mathlib.Core.Path.{◌≡◌, sym, ◌∙◌, ap}
use mathlib.Core.Bool.{Bool, true, false}
use mathlib.Core.List.{List}
use Prim.Native.Nat.{ℕ, ◌≤◌, ◌<◌}
use lib.IntN.{ℤ}
use Rattle.numbers.specs.Words.{top, unbias, unword}
use Rattle.numbers.proofs.Words.{unword_at}
use Rattle.meaning.specs.Meaning.{Side}
use Rattle.meaning.specs.Meaning as m
use Rattle.meaning.specs.Merge.{Rule}
use Rattle.meaning.specs.Computed.{starting, gather, extreme_of, extreme}
use Rattle.meaning.specs.Represents.{Off}
use Rattle.area.specs.Layout.{constant_of, entries_of}
use Rattle.area.specs.Whole.{DistinctAtoms}
use Rattle.kinds.specs.declared.Kind.{Kind}
use Rattle.kinds.specs.declared.Kind.TheVariants.{Sum, Product, Count, Max, Min}
use Rattle.extremes.specs.Inner.Words.{meant, start_word, extreme_word}
use Rattle.extremes.specs.Inner.Room.{Rooms}
use Rattle.extremes.proofs.Values.{direction, In, unword_empty}
use Rattle.extremes.proofs.Contributions.{Legal, ShowsIn, folded_means, folded_in}

abbrev pub sided : Bool → Side
sided true = m.upper
sided false = m.lower

-- the rule that the words of a sentence stand for
abbrev pub rule_words : Kind → Bool → ℕ → ℕ → ℕ → ℕ → List ℕ → Rule
rule_words k upper bound c head written words = record {
  head = head;
  kind = meant k;
  side = sided upper;
  bound = unbias bound;
  set = record { constant = constant_of (meant k) c; entries = entries_of words };
  written = written;
}

-- the words are in range, and no fold over them wraps, whatever the values
pub record Sound (n : ℕ) (k : Kind) (bound c head : ℕ) (words : List ℕ) : Type 0 where
  pub legal : Legal k n words
  pub once : DistinctAtoms (entries_of words)
  pub headless : Off head (entries_of words)
  pub start_in : In k (start_word k c)
  pub rooms : (v : ℕ → ℕ) → Rooms k (start_word k c) v words
  pub bound_low : 0 < bound
  pub bound_high : bound < top
  pub head_low : 1 ≤ head
  pub head_high : head ≤ n

starting_is : (k : Kind) (c : ℕ) → In k (start_word k c) → unword (start_word k c) ≡ starting (meant k) (constant_of (meant k) c)
starting_is Sum c h = unword_at c h.0 h.1
starting_is Product c h = unword_empty Product
starting_is Count c h = unword_at c h.0 h.1
starting_is Max c h = unword_empty Max
starting_is Min c h = unword_empty Min

-- ---- the extremes

module _ {n : ℕ} {k : Kind} {bound c head : ℕ} {words : List ℕ} (sound : Sound n k bound c head words) where
  pub extreme_in : (u : Bool) (v : ℕ → ℕ) → In k (extreme_word k u v c words)
  extreme_in u v = folded_in n k u v (start_word k c) words sound.legal sound.start_in (sound.rooms v u)

  pub extreme_means : (upper : Bool) (written : ℕ) (u : Bool) (v : ℕ → ℕ) (t : List ℤ) → ShowsIn n v t
      → extreme (direction u) (rule_words k upper bound c head written words) t ≡ unword (extreme_word k u v c words)
  unfolding extreme
  extreme_means upper written u v t sh =
      sym (folded_means n k u v t sh (start_word k c) words sound.legal sound.start_in (sound.rooms v u)
      ∙ ap (λ z. gather (meant k) (extreme_of (meant k) (direction u) t) z (entries_of words)) (starting_is k c sound.start_in))

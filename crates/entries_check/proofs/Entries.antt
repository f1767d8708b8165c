-- The check of the entries, entry by entry: those passed are whole, their atoms are stamped, and their product is the running one. The
-- product of weights from 1 on does not fall, so that one that has passed 10^18 stays past it.
use mathlib.Core.Path.{◌≡◌, sym, ap, ◌∙◌}
use mathlib.Core.Bool.{true, false}
use mathlib.Core.List.{List}
use Prim.Native.Nat.{ℕ, ◌+◌, ◌*◌, ◌/◌, ◌<◌, ◌≤◌}
use native.Mathlib.Omega.{arith}
use lib.ListN.{set}
use borrow.Author.Count.{below_none, below_more}
use Rattle.types.specs.Limits.{bound_limit, widest}
use Rattle.decide.specs.Below.{product_below}
use Rattle.decide.proofs.Below.{product_none, product_step, product_grows}
use Rattle.decide.proofs.Tells.{told_yes, told_no}
use Rattle.numbers.specs.Words.{half}
use Rattle.meaning.specs.Meaning.{Kind, product}
use Rattle.area.specs.Layout.{word, written_at, merged_at, kind_of, kind_at, entry_of}
use Rattle.area.specs.Whole.{ProductWeight, EntryWhole}
use Rattle.word_check.specs.Inner.Words.{Grown, Past}
use Rattle.entries_check.specs.Inner.Entries.{stored_entry, factor, Stamps, EntriesTold}
use Rattle.numbers.proofs.Words.{one_from}
use Rattle.meaning.proofs.Trails.{atom_half}
use Rattle.entries_check.proofs.Stamping.{Stamped, none_stamped, met_before, one_stamped, stamps_upto}

abbrev pub atom_at : List ℕ → ℕ → ℕ → ℕ
atom_at w at k = word w (at + 2 * k + 1) / 2

abbrev pub EntryOk : List ℕ → ℕ → ℕ → ℕ → ℕ → Type 0
EntryOk w n b at k = EntryWhole n (word w b) (kind_of (kind_at w b)) (written_at w b) (stored_entry w at k)

-- the first i entries have passed, and their weights' product so far is not past the bound
pub record Passed (w : List ℕ) (n b at old i : ℕ) (seen : List ℕ) (so_far : ℕ) : Type 0 where
  pub whole : (k : ℕ) → k < i → EntryOk w n b at k
  pub stamped : Stamped (atom_at w at) old i seen
  pub low : 1 ≤ so_far
  pub high : so_far ≤ bound_limit
  pub is : kind_of (kind_at w b) ≡ product → so_far ≡ product_below i (factor w at)

-- what is told of the words that were read
pub entry_is : {n head written weight literal : ℕ} {kind : Kind} (w : List ℕ) (b at i : ℕ)
    → head ≡ word w b → kind ≡ kind_of (kind_at w b) → written ≡ written_at w b
    → weight ≡ word w (at + 2 * i) → literal ≡ word w (at + 2 * i + 1) → EntryWhole n head kind written (entry_of weight literal) → EntryOk w n b at i
entry_is w b at i h k m x l e = rw (h, k, m, x, l) at e

-- an entry's atom has a place in the table
pub place_below : {n head written : ℕ} {kind : Kind} (weight literal : ℕ) → n ≤ widest.atoms
    → EntryWhole n head kind written (entry_of weight literal) → literal / 2 < 4097
place_below weight literal h e = omega (arith, e.atom_high, atom_half literal)

-- a weight of a product is above the word of 0
pub factor_above : {n head written : ℕ} {kind : Kind} (weight literal : ℕ) → kind ≡ product
    → EntryWhole n head kind written (entry_of weight literal) → half < weight
factor_above weight literal q e = let m : ProductWeight (entry_of weight literal) = rw q at e.weighs in one_from weight m.low

pub weight_above : (w : List ℕ) (n b at k : ℕ) → kind_of (kind_at w b) ≡ product → EntryOk w n b at k → half < word w (at + 2 * k)
weight_above w n b at k q e = factor_above (word w (at + 2 * k)) (word w (at + 2 * k + 1)) q e

module _ (w : List ℕ) (n b at old : ℕ) where
  pub none_passed : (seen : List ℕ) → Stamps seen old → Passed w n b at old 0 seen 1
  none_passed seen s = record {
    whole = below_none (EntryOk w n b at);
    stamped = none_stamped (atom_at w at) old seen s;
    low = omega arith;
    high = omega arith;
    is = λ q. sym (product_none (factor w at));
  }

  module _ (i : ℕ) (seen : List ℕ) (so_far : ℕ) (p : Passed w n b at old i seen so_far) where
    pub entry_broken : i < merged_at w b → (EntryOk w n b at i → ⊥) → EntriesTold w n b at seen old false
    entry_broken l d = record { tells = told_no (λ h. d (h.each i l)); stamps = stamps_upto (atom_at w at) old i seen p.stamped }

    -- an atom with a stamp of this sentence stands in it before
    pub stamped_twice : atom_at w at i < 4097 → i < merged_at w b → old < word seen (atom_at w at i) → EntriesTold w n b at seen old false
    stamped_twice a l h = record {
      tells = told_no (λ o. met_before (atom_at w at) old i seen p.stamped a (merged_at w b) l h
          (λ j k s t e. o.once j k s t (atom_half (word w (at + 2 * j + 1)) ∙ e ∙ sym (atom_half (word w (at + 2 * k + 1))))));
      stamps = stamps_upto (atom_at w at) old i seen p.stamped;
    }

    product_next : kind_of (kind_at w b) ≡ product → so_far * factor w at i ≡ product_below (i + 1) (factor w at)
    product_next q = ap {A = ℕ} (λ x. x * factor w at i) (p.is q) ∙ sym (product_step i (factor w at))

    module _ (v : ℕ) (new : v ≡ old + 1) (a : atom_at w at i < 4097) (f : word seen (atom_at w at i) ≤ old) where
      stamped_now : Stamped (atom_at w at) old (i + 1) (set seen (atom_at w at i) v)
      stamped_now = one_stamped (atom_at w at) old i seen p.stamped a v new f

      pub one_passed : (next : ℕ) → EntryOk w n b at i → Grown (kind_of (kind_at w b)) so_far (word w (at + 2 * i)) next
          → Passed w n b at old (i + 1) (set seen (atom_at w at i) v) next
      one_passed next e g = record {
        whole = below_more (EntryOk w n b at) i p.whole e;
        stamped = stamped_now;
        low = g.low;
        high = g.high;
        is = λ q. g.is q ∙ product_next q;
      }

      pub product_past : i < merged_at w b → Past (kind_of (kind_at w b)) so_far (word w (at + 2 * i))
          → EntriesTold w n b at (set seen (atom_at w at i) v) old false
      product_past l z = record {
        tells = told_no (λ o. omega (
          arith,
          z.past,
          product_next z.is,
          o.weights z.is,
          product_grows (factor w at) (i + 1) (merged_at w b) (omega arith) (λ j t. omega (arith, weight_above w n b at j z.is (o.each j t))),
        ));
        stamps = stamps_upto (atom_at w at) old (i + 1) (set seen (atom_at w at i) v) stamped_now;
      }

  pub all_passed : (i : ℕ) (seen : List ℕ) (so_far : ℕ) → Passed w n b at old i seen so_far → i ≡ merged_at w b → EntriesTold w n b at seen old true
  all_passed i seen so_far p e = record {
    tells = told_yes (record {
      each = λ k l. p.whole k (omega arith);
      once = λ j k l m q. p.stamped.apart j k (omega arith) (omega arith)
          (sym (atom_half (word w (at + 2 * j + 1))) ∙ q ∙ atom_half (word w (at + 2 * k + 1)));
      weights = λ q. omega (arith, p.is q, p.high, ap {A = ℕ} (λ m. product_below m (factor w at)) e);
    });
    stamps = stamps_upto (atom_at w at) old i seen p.stamped;
  }

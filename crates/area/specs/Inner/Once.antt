-- That a rule is whole, and that an area is, has one proof at most, as a fact beside the values that it is about must have.
use Rattle.std.specs.Prelude.{◌≡◌, List, [], ◌∷◌, ℕ}
use Rattle.std.specs.Coded.{×_prop, Unit-prop, le_prop}
use Rattle.std.proofs.Props.{props}
use Rattle.types.specs.declared.Limits.{Limits}
use Rattle.meaning.specs.Meaning.{atom, Entry, Kind, sum, product, count, maximum, minimum, Each, DistinctAtoms}
use Rattle.meaning.specs.Merge.{Rule}
use Rattle.book.specs.Rows.{Row}
use Rattle.book.specs.Book.{Counters}
use Rattle.area.specs.Layout.{atoms_of, sentences_of, level_of, rows_of, record_at, rule_at}
use Rattle.area.specs.Whole.{WeightWhole, EntryWhole, RuleWhole, SentenceWhole, TheoryWhole, AtomsOnce, TrailWhole, Rising, Whole}

each_prop : {A : Type 0} (P : A → Type 0) → ((x : A) → IsProp (P x)) → (xs : List A) → IsProp (Each P xs)
each_prop P p [] = Unit-prop
each_prop P p (x ∷ xs) = ×_prop (p x) (each_prop P p xs)

once_prop : (es : List Entry) → IsProp (DistinctAtoms es)
once_prop [] = Unit-prop
once_prop (e ∷ es) = ×_prop (each_prop _ (λ x. hlevel props) es) (once_prop es)

weight_prop : (k : Kind) (written : ℕ) (e : Entry) → IsProp (WeightWhole k written e)
weight_prop sum written e = hlevel props
weight_prop product written e = hlevel props
weight_prop count written e = hlevel props
weight_prop maximum written e = le_prop
weight_prop minimum written e = le_prop

entry_prop : (n head : ℕ) (k : Kind) (written : ℕ) (e : Entry) → IsProp (EntryWhole n head k written e)
entry_prop n head k written e = hlevel (props, weight_prop k written e)

pub rule_prop : (lim : Limits) (n : ℕ) (r : Rule) → IsProp (RuleWhole lim n r)
rule_prop lim n r = hlevel (props, once_prop r.set.entries, each_prop _ (entry_prop n r.head r.kind r.written) r.set.entries)

rows_prop : (n : ℕ) (rs : List Row) → IsProp (AtomsOnce n rs)
rows_prop n [] = Unit-prop
rows_prop n (r ∷ rs) =
    ×_prop (hlevel (props, each_prop (λ x. ¬ (atom x.literal ≡ atom r.literal)) (λ x. hlevel props) rs)) (rows_prop n rs)

rising_prop : (v : ℕ) (rs : List Row) → IsProp (Rising v rs)
rising_prop v [] = Unit-prop
rising_prop v (r ∷ rs) = ×_prop le_prop (rising_prop r.level rs)

sentence_prop : (lim : Limits) (w : List ℕ) (n S s : ℕ) → IsProp (SentenceWhole lim w n S s)
sentence_prop lim w n S s = hlevel (props, rule_prop lim n (rule_at w n S (record_at n s)))

theory_prop : (lim : Limits) (w : List ℕ) → IsProp (TheoryWhole lim w)
theory_prop lim w = hlevel (props, sentence_prop lim w (atoms_of w) (sentences_of w))

trail_prop : (w : List ℕ) → IsProp (TrailWhole w)
trail_prop w = hlevel (props, rows_prop (atoms_of w) (rows_of w))

pub whole_prop : (lim : Limits) (w : List ℕ) (c : Counters) → IsProp (Whole lim w c)
whole_prop lim w c = hlevel (props, theory_prop lim w, trail_prop w, rising_prop (level_of w) (rows_of w))

-- One entry more, as the loops of the second best and of the scan go: what they make of the words from entry i on stays what they make of
-- all, and that is each loop's invariant.
use mathlib.Core.Path.{◌≡◌, sym, ap, ◌∙◌, subst}
use mathlib.Core.Bool.{Bool, true, false, cond}
use mathlib.Core.List.{List, ◌∷◌}
use Prim.Native.Nat.{ℕ, ◌+◌, ◌/◌, ◌<◌}
use Rattle.area.specs.Layout.{value_at, entry_words}
use Rattle.extremes.specs.declared.EntryWords.{EntryWords}
use Rattle.extremes.specs.Inner.Words.{empty_word, furthest_word, nearest_word, reach_word}
use Rattle.extremes.specs.Inner.Room.{Entries, EntryIs}
use Rattle.extremes.proofs.Loops.{words_from, from_next, from_start, from_end, rest_from, reach_is, rest_next, rest_end}
use Rattle.evaluate.specs.declared.Body.{Body}
use Rattle.evaluate.specs.declared.Said.{Said}
use Rattle.evaluate.specs.declared.Said.TheVariants.{Silent, Forced}
use Rattle.evaluate.specs.Inner.Words.{best_kind, second_best, second_word, wanted_word, scanned}
use Rattle.evaluate.specs.Inner.Room.{Turns, Turnable}
use Rattle.evaluate.specs.Inner.Known.{turns_open}

-- ---- the second best

-- from `best` and `next` on, the contributions from entry i on leave the whole second best
pub record Seconds (up : Bool) (area : List ℕ) (start count n i best next : ℕ) : Type 0 where
  pub leaves : second_best up best next (rest_from (best_kind up) up (value_at area n) area start count i) ≡ second_word up (value_at area n) (entry_words area start count)

module _ {up : Bool} {area : List ℕ} {start count n : ℕ} where
  pub seconds_start : {none : ℕ} → none ≡ empty_word (best_kind up) → Seconds up area start count n 0 none none
  seconds_start e = record { leaves = rw (e, from_start area start count) }

  pub seconds_next : {i best next none x near best' next' : ℕ} {e : EntryWords} → i < count → Entries area start count n → Seconds up area start count n i best next
      → EntryIs area start n i e → none ≡ empty_word (best_kind up) → x ≡ reach_word up none e.weight e.literal e.value → near ≡ nearest_word up best x
      → next' ≡ furthest_word up next near → best' ≡ furthest_word up best x → Seconds up area start count n (i + 1) best' next'
  unfolding second_best
  seconds_next {i} {best} {next} h g s w q x y z b = record {
    leaves = rw (b, z, y, reach_is (best_kind up) up count w q x) (ap (second_best up best next) (sym (rest_next (best_kind up) up (value_at area n) area start count i h g.inside)) ∙ s.leaves);
  }

  pub seconds_end : {i best next : ℕ} → Seconds up area start count n i best next → i ≡ count → next ≡ second_word up (value_at area n) (entry_words area start count)
  unfolding second_best
  seconds_end {i} {best} {next} s e = ap (second_best up best next) (sym (rest_end (best_kind up) up (value_at area n) area start count i e)) ∙ s.leaves

-- ---- the scan

abbrev pub scan_of : Body → List ℕ → ℕ → List ℕ → Said
scan_of x area n words = scanned x.kind x.up x.limit x.extreme (value_at area n) words

-- scanning the words from entry i on comes to the whole answer, and turning their open entries does not wrap
pub record Scanning (x : Body) (area : List ℕ) (n i : ℕ) : Type 0 where
  pub turnable : Turnable x.kind x.up x.extreme (value_at area n) (words_from area x.start x.merged i)
  pub scans : scan_of x area n (words_from area x.start x.merged i) ≡ scan_of x area n (entry_words area x.start x.merged)

module _ {x : Body} {area : List ℕ} {n : ℕ} where
  pub scanning_starts : Turnable x.kind x.up x.extreme (value_at area n) (entry_words area x.start x.merged) → Scanning x area n 0
  scanning_starts t = record { turnable = rw (from_start area x.start x.merged) t; scans = rw (from_start area x.start x.merged) }

  pub scanning_ends : {i : ℕ} → Scanning x area n i → i ≡ x.merged → Silent ≡ scan_of x area n (entry_words area x.start x.merged)
  unfolding scanned
  scanning_ends {i} s q = ap (scan_of x area n) (sym (from_end area x.start x.merged i q)) ∙ s.scans

  module _ {i : ℕ} {e : EntryWords} (h : i < x.merged) (g : Entries area x.start x.merged n) (s : Scanning x area n i) (r : EntryIs area x.start n i e) where
    next_words : words_from area x.start x.merged i ≡ e.weight ∷ e.literal ∷ words_from area x.start x.merged (i + 1)
    next_words = rw (r.weight_is, r.literal_is) (from_next area x.start x.merged i h g.inside)

    value_here : value_at area n (e.literal / 2) ≡ e.value
    value_here = rw r.literal_is (sym r.value_is)

    pub scanning_turns : e.value ≡ 0 → Turns x.kind x.up x.extreme e.weight
    unfolding Turnable
    scanning_turns z = (subst (Turnable x.kind x.up x.extreme (value_at area n)) next_words s.turnable).0 (value_here ∙ z)

    scanning_told : {b : Bool} → b ≡ turns_open x e.weight e.value
        → cond b (Forced (wanted_word x.up (empty_word x.kind) e.weight e.literal)) (scan_of x area n (words_from area x.start x.merged (i + 1)))
        ≡ scan_of x area n (entry_words area x.start x.merged)
    unfolding scanned
    scanning_told q = rw (q, sym value_here) (ap (scan_of x area n) (sym next_words) ∙ s.scans)

    pub scanning_found : {b : Bool} {l : ℕ} → b ≡ turns_open x e.weight e.value → b ≡ true → l ≡ wanted_word x.up (empty_word x.kind) e.weight e.literal
        → Forced l ≡ scan_of x area n (entry_words area x.start x.merged)
    scanning_found q t w = rw (t, ← w) at (scanning_told q)

    pub scanning_next : {b : Bool} → b ≡ turns_open x e.weight e.value → b ≡ false → Scanning x area n (i + 1)
    unfolding Turnable
    scanning_next q f = record { turnable = (subst (Turnable x.kind x.up x.extreme (value_at area n)) next_words s.turnable).1; scans = rw f at (scanning_told q) }

-- The claim about every list of calls holds of M11 and M12: it is proved of every list from an accepted load.
use mathlib.Core.Path.{refl, subst}
use mathlib.Core.List.{List, [], ◌∷◌}
use Prim.Native.Nat.{ℕ}
use lib.ListN.{take}
use Rattle.types.specs.Limits.{document}
use Rattle.types.specs.declared.Counters.{Counters}
use Rattle.meaning.specs.Meaning.{Sentence}
use Rattle.meaning.specs.Examples.{m4}
use Rattle.book.specs.Examples.{ring}
use Rattle.columns.specs.Columns.{Columns}
use Rattle.load.proofs.Base.{base_fits}
use Rattle.history.specs.History.{Event, Claim}
use Rattle.history.proofs.Claim.{history}
use Rattle.history_examples.specs.Examples.{counters_at, load_done, FromLoad, events, m11_loaded, m11_again, m11_turns, m12_loaded, m12_derived, m12_turns}
use Rattle.history_examples.proofs.Lists.{m11_listed, m12_listed}

from_load : {w₀ w : List ℕ} {n : ℕ} {cs : Columns} {ss : List Sentence} {es : List Event} {w' : List ℕ} {c : Counters}
    → FromLoad w₀ w n cs ss es w' c → Claim document n ss w es w' c
from_load {w₀} {w} {n} {cs} {ss} {es} {w'} {c} x =
    subst (λ s. Claim document n s w es w' c) x.sentences (history document base_fits w₀ w n cs load_done x.loads refl es w' c x.calls)

pub m11_claimed : Claim document 3 (m4 ∷ []) m11_loaded (events m11_turns) m11_again (counters_at 3 0)
m11_claimed = from_load (m11_listed (take 24 m11_loaded) refl)

pub m12_claimed : Claim document 2 (ring 1 2 ∷ ring 2 1 ∷ []) m12_loaded (events m12_turns) m12_derived (counters_at 2 0)
m12_claimed = from_load (m12_listed (take 28 m12_loaded) refl)

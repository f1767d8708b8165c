-- Each part of the check tells of one of the parts of wholeness, and the parts together are wholeness (`Join`).
use Rattle.std.proofs.Common.{arith, refl, sym, ◌∙◌}
use Rattle.decide.proofs.Tells.{told_no, told_same}
use Rattle.trail_check.specs.Trail.{TrailOk}
use Rattle.trail_check.proofs.Shown.{shows, literals}
use Rattle.theory_check.specs.Theory.{PlacesOk}
use Rattle.whole.proofs.Join.{parts, joined_at, parts_at}
use Rattle.whole.proofs.is_whole.Goals as goal
use Rattle.whole.proofs.is_whole.Goals.{then-places_ok, else-places_ok}

pub returns-then-not-header_ok : goal.returns-then-not-header_ok
returns-then-not-header_ok c = told_no (λ h. c.if-not-header_ok.ensures.no refl (parts _ _ _ _ h).header)

pub reasons_ok-requires : goal.reasons_ok-requires
reasons_ok-requires c =
    let t : TrailOk c.args.area.now c.sizes_of-sizes.result.atoms c.args.counters.length c.args.counters.level.0 = grind arith in
    let p : PlacesOk c.args.lim c.args.area.now c.sizes_of-sizes.result.atoms c.sizes_of-sizes.result.sentences = grind arith in
    let h = c.if-not-header_ok.ensures.yes refl in
    let l = literals t in search arith

pub returns-then-sentences_ok : goal.returns-then-sentences_ok
returns-then-sentences_ok c =
    let t : TrailOk c.args.area.now c.sizes_of-sizes.result.atoms c.args.counters.length c.args.counters.level.0 = grind arith in
    let p : PlacesOk c.args.lim c.args.area.now c.sizes_of-sizes.result.atoms c.sizes_of-sizes.result.sentences = grind arith in
    elim c.if-places_ok.branch [
      | then-places_ok w ↦ told_same c.reasons_ok.ensures
          (λ r. joined_at _ _ _ _ _ _ (sym c.sizes_of-sizes.ensures.atoms) (sym c.sizes_of-sizes.ensures.sentences) (c.if-not-header_ok.ensures.yes refl) (record {
            trail_ok = t;
            places = p;
            sentences = (w.sentences_ok.ensures _ (shows t)).yes (sym w.value-is ∙ c.if-sentences_ok.true);
            reasons = r;
          }))
          (λ h. (parts_at _ _ _ _ _ _ (sym c.sizes_of-sizes.ensures.atoms) (sym c.sizes_of-sizes.ensures.sentences) h).reasons)
      | else-places_ok w ↦ absurd (cc)
    ]

pub returns-else-sentences_ok : goal.returns-else-sentences_ok
returns-else-sentences_ok c = record {
  yes = λ e. absurd (cc);
  no = λ e h. let p = parts_at _ _ _ _ _ _ (sym c.sizes_of-sizes.ensures.atoms) (sym c.sizes_of-sizes.ensures.sentences) h in
      elim c.if-places_ok.branch [
        | then-places_ok w ↦ (w.sentences_ok.ensures _ (shows p.trail_ok)).no (sym w.value-is ∙ c.if-sentences_ok.false) p.sentences
        | else-places_ok w ↦ grind arith
      ];
}

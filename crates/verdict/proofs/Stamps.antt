-- The walk that stamps, over the rows of the scratch table. Assumes nothing.
use Rattle.std.proofs.Common.{◌≡◌, ℕ, suc, ◌+◌, ◌<◌, false, List, length, get_or, set, is_some, Some, sym, ap, ◌∙◌, subst₂, arith}
use Rattle.verdict.specs.Scratch.{links_of, stamp_at}
use Rattle.verdict.specs.Kept.{kept_at, Closed, Grounded, Round, Checked, start_of}
use Rattle.verdict.specs.declared.link.Kept.{Kept}
use Rattle.verdict.specs.declared.link.Origin.{Origin}
use Rattle.verdict.proofs.Frames.{kept_row, stamp_row, stamp_same, stamp_other}
use Rattle.verdict.proofs.Walks.{Walking, walk_inside, walk_round, walk_ends, walk_root, walk_met, walk_on}

-- The rows were ks at the start of the walk, and are ms now.
pub record Walked (ks ms : List Kept) (n start i at : ℕ) : Type 0 where
  pub closed : Closed (links_of ks) n
  pub inside : start < n
  pub links : links_of ms ≡ links_of ks
  pub long : length ms ≡ n
  pub walks : Walking (links_of ks) n start i at (stamp_at ms)

module _ {ks ms : List Kept} {n start i at : ℕ} (d : Kept) (w : Walked ks ms n start i at) where
  free : at < length ms
  free = let p = walk_inside (links_of ks) n start i at (stamp_at ms) w.closed w.inside w.walks in let l = w.long in omega arith

  row : kept_at (links_of ks) at ≡ (get_or ms at d).link
  row = ap (λ l. kept_at l at) (sym w.links) ∙ kept_row ms at d free

  pub round_at : (get_or ms at d).stamp ≡ start + 1 → Round (links_of ks) n at
  round_at e = walk_round (links_of ks) n start i at (stamp_at ms) w.closed w.inside w.walks (let q = stamp_row ms at d free in omega arith)

  pub met_at : ((get_or ms at d).stamp ≡ 0 → ⊥) → ((get_or ms at d).stamp ≡ start + 1 → ⊥) → Grounded (links_of ks) start × Checked (links_of ks) n (suc start) (stamp_at ms)
  met_at a b =
      walk_ends (links_of ks) n start i at (stamp_at ms) w.closed w.inside w.walks
      (walk_met (links_of ks) n start i at (stamp_at ms) w.closed w.inside w.walks (λ e. a (sym (stamp_row ms at d free) ∙ e)) (λ e. b (let q = stamp_row ms at d free in omega arith)))

  pub root_at : is_some (get_or ms at d).link ≡ false → Grounded (links_of ks) start × Checked (links_of ks) n (suc start) (stamp_at ms)
  root_at e =
      walk_ends (links_of ks) n start i at (stamp_at ms) w.closed w.inside w.walks
      (walk_root (links_of ks) n start i at (stamp_at ms) w.closed w.inside w.walks (ap is_some row ∙ e))

  pub on_at : (o : Origin) → (get_or ms at d).link ≡ Some o → (get_or ms at d).stamp ≡ 0
      → Walking (links_of ks) n start (i + 1) o.from (stamp_at (set ms at (record { link = (get_or ms at d).link; stamp = start + 1 })))
  on_at o e h =
      let next : suc i ≡ i + 1 = omega arith in
      let mark : start + 1 ≡ suc start = omega arith in
      let stamp = stamp_at (set ms at (record { link = (get_or ms at d).link; stamp = start + 1 })) in
      subst₂ (λ j x. Walking (links_of ks) n start j x stamp) next (ap start_of (row ∙ e))
      (walk_on (links_of ks) n start i at (stamp_at ms) w.closed w.inside w.walks stamp (stamp_row ms at d free ∙ h) (ap is_some (row ∙ e))
      (stamp_same ms at _ free ∙ mark) (λ v p. stamp_other ms at _ v p))

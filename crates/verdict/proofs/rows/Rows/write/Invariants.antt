use Rattle.std.proofs.Common.{◌≡◌, ◌-◌, ◌<◌, ◌≤◌, length, take, drop}
use Rattle.verdict.specs.Frame.{Past}
use Rattle.verdict.specs.Kept.{from_at, iter, Written}
use Rattle.verdict.specs.Rows.{Same}
use Rattle.verdict.specs.Scratch.{links_of}
use Rattle.verdict.proofs.rows.Rows.write.Given as goal

-- the rows from `row` on are written: so many links of the way back from `on`
abbrev pub invariant-loop-row : goal.invariant-loop-row
invariant-loop-row g l =
    let ls = links_of l.initial.self.kept.now in
    (l.at < length l.self.kept.now)
    × Past l.links l.initial.self.chain.now l.self.chain.now
    × (l.self.times.now ≡ l.initial.self.times.now)
    × (l.self.kept.now ≡ l.initial.self.kept.now)
    × (l.row ≤ l.links)
    × (l.at ≡ iter (from_at ls) (l.links - l.row) l.on)
    × Written ls l.on (l.links - l.row) (drop l.row (take l.links l.self.chain.now))
    × Same l.initial.self l.self

use Rattle.std.proofs.Common.{◌+◌, Some, sym, ap, ap₂, ◌∙◌, arith, rules}
use Rattle.std.specs.Option.{option_or}
use Rattle.roster.proofs.Laying.{length_rooms, rooms_end, some_life, no_life, number_is}
use Rattle.roster.proofs.Places.{place_here, place_later, searched}
use Rattle.roster.proofs.rosters.Roster.search.Goals as goal
use Rattle.roster.proofs.rosters.Roster.search.Goals.{then-life-number, else-life-number}

pub loop-life-preserved : goal.loop-life-preserved
loop-life-preserved g c =
    let i = c.loop-life.life-index in
    let x = c.life-item.result in
    let rooms = c.rooms-life-items.result.now in
    let inv = c.loop-life.invariant in (
      search rules,
      search rules,
      λ size led held.
          let so_far = inv.2 size led held in
          let more = some_life held rooms c.rooms-life-items.ensures i x (omega arith) c.life-item.is so_far.0 c.if-life-eq0.false in
          let is = number_is held rooms c.rooms-life-items.ensures i x (omega arith) c.life-item.is so_far.0 in (
            omega (arith, more),
            elim c.if-life-number.branch [
              | then-life-number w ↦
                  ap (λ f. f.place) w.found-is ∙ w.or-found.ensures
                  ∙ ap₂ option_or so_far.1 (ap (λ k. Some (k + 1)) inv.0)
                  ∙ sym (place_here c.args.number led.lives i x.number more is w.if-life-number.true)
              | else-life-number w ↦
                  ap (λ f. f.place) w.found-is ∙ so_far.1
                  ∙ sym (place_later c.args.number led.lives i x.number more is w.if-life-number.false)
            ],
          ),
    )

pub returns-after-loop-life-clause-within : goal.returns-after-loop-life-clause-within
returns-after-loop-life-clause-within g c = omega (arith, c.loop-life.invariant.0, length_rooms c.args.self.now.cells.now c.rooms-life-items.result.now c.rooms-life-items.ensures)

pub returns-after-loop-life-clause-found : goal.returns-after-loop-life-clause-found
returns-after-loop-life-clause-found g c size led held =
    let inv = c.loop-life.invariant in
    let so_far = inv.2 size led held in
    searched c.args.number led.lives c.loop-life.life-index c.loop-life.found.lives c.loop-life.found.place inv.0 so_far.1
    (rooms_end held c.rooms-life-items.result.now c.rooms-life-items.ensures c.loop-life.life-index (omega arith) so_far.0)

pub returns-then-life-eq0-clause-within : goal.returns-then-life-eq0-clause-within
returns-then-life-eq0-clause-within g c = omega (arith, c.loop-life.invariant.0, length_rooms c.args.self.now.cells.now c.rooms-life-items.result.now c.rooms-life-items.ensures)

pub returns-then-life-eq0-clause-found : goal.returns-then-life-eq0-clause-found
returns-then-life-eq0-clause-found g c size led held =
    let inv = c.loop-life.invariant in
    let so_far = inv.2 size led held in
    searched c.args.number led.lives c.loop-life.life-index c.loop-life.found.lives c.loop-life.found.place inv.0 so_far.1
    (no_life held c.rooms-life-items.result.now c.rooms-life-items.ensures c.loop-life.life-index c.life-item.result (omega arith) c.life-item.is so_far.0 c.if-life-eq0.true)

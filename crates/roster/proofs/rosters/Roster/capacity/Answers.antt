use Rattle.roster.proofs.Laying.{length_rooms}
use Rattle.roster.proofs.rosters.Roster.capacity.Goals as goal

pub returns : goal.returns
returns g c = length_rooms c.args.self.now.cells.now c.rooms.result.now c.rooms.ensures

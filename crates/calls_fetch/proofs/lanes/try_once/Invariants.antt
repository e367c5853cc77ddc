use Rattle.std.proofs.Common.{[], length, ◌<◌}
use Rattle.fetch_lane.specs.Lanes.{IsOpen}
use Rattle.calls_fetch.proofs.lanes.try_once.Given as goal

abbrev pub invariant-turns : goal.invariant-turns
invariant-turns g l = record {
  goes : IsOpen (g.W.Wire.hosts l.wire) [] l.conn (g.W.Wire.conns l.wire) l.lane;
  room : l.lane.flight.failed < 255;
  some : 0 < length l.buffer;
}

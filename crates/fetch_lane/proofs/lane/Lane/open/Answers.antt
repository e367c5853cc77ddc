use Rattle.std.proofs.Common.{◌≡◌, [], refl, arith}
use Rattle.std.specs.Prelude.{Some, false}
use Rattle.fetch_lane.specs.declared.lane.Lane.{Lane}
use Rattle.fetch_lane.specs.Lanes.{conn_over}
use Rattle.fetch_lane.proofs.LaneLemmas.{opened_lane}
use Rattle.fetch_lane.proofs.lane.Lane.open.Goals as goal

pub returns-in-Conn-clause-lane : goal.returns-in-Conn-clause-lane
returns-in-Conn-clause-lane g c =
    let lane : Lane = record c.args.self.now { silent = 0; stage = c.stage_after-self.result; reading = c.new.result } in
    let opens = rw c.in-Conn.is at c.in_ok-conn.ensures.opens in
    let fresh : g.W.Wire.conns c.open.new.self c.in-Conn.conn ≡ Some (conn_over lane false [] []) = cc (opens.1, c.as_str.ensures) in (
      opened_lane (g.W.Wire.hosts c.open.new.self) (g.W.Wire.conns c.open.new.self) lane c.in-Conn.conn c.stage_after-self.ensures.conn
          (λ h. c.stage_after-self.ensures.more (omega (arith, h, c.len.ensures))) (λ h. c.stage_after-self.ensures.all (omega (arith, h, c.len.ensures)))
          fresh (record { read = c.new.ensures.read; same_limit = c.new.ensures.limit; going = c.new.ensures.going; few = omega arith }) refl,
      refl,
      refl,
      record { number = refl; link = refl; host = refl; port = refl; request = refl; limit = refl },
    )

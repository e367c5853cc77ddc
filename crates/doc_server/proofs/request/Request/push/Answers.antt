use Rattle.std.proofs.Common.{◌∙◌, ap, sym}
use Rattle.doc_server.specs.declared.head_end.Place.TheVariants.{Blank}
use Rattle.doc_server.specs.HeadEnd.{place_after}
use Rattle.doc_server.proofs.HeadEnds.{moved}
use Rattle.doc_server.proofs.request.Request.push.Goals as goal

pub invariant_of-self-2 : goal.invariant_of-self-2
invariant_of-self-2 c =
    let old = c.args.self.now in
    record {
      here = moved old.place c.place_after-self.result old.bytes c.args.piece.now old.here c.place_after-self.ensures ∙ ap (place_after Blank) (sym c.in_ok-extend.ensures.ok);
    }

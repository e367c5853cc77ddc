use Rattle.iri_core.proofs.resolution.optional_piece.Goals as goal

pub piece-requires : goal.piece-requires
piece-requires c = c.requires c.in-Some.span c.in-Some.is

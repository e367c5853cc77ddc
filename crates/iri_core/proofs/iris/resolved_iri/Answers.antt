use Rattle.iri_core.proofs.Refusing.{refused_none}
use Rattle.iri_core.proofs.iris.resolved_iri.Goals as goal

pub returns-in-Err-NotAnIri : goal.returns-in-Err-NotAnIri
returns-in-Err-NotAnIri c = refused_none _ c.in-Err-NotAnIri.field-0-0 _ ((c.in-Err-NotAnIri.ensures.refused c.in-Err-NotAnIri.field-0-0).0 (let e = c.in-Err-NotAnIri.field-0-is in cc))

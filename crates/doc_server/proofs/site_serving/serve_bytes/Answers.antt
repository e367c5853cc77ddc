use Rattle.std.proofs.Common.{refl, ap, Err}
use Rattle.doc_server.proofs.site_serving.serve_bytes.Goals as goal

pub returns-in-Err-Bad : goal.returns-in-Err-Bad
returns-in-Err-Bad g c = ((_, c.in-Err-Bad.ensures.bad _ (ap Err c.in-Err-Bad.field-0-is)), refl)

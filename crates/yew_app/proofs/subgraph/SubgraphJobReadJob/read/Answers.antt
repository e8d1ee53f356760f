use Rattle.std.proofs.Common.{List, Option, [], inr, refl, subst}
use Rattle.yew_io.specs.Shelf.{File}
use Rattle.yew_lad.specs.Files.{IsGraphOffence, IsPastLimit}
use Rattle.yew_app.specs.Judging.{IsRead, IsRefusedFile, IsFileReason}
use Rattle.yew_app.specs.Reasons.{reason_of}
use Rattle.yew_app.specs.Refusals.{Reason}
use Rattle.yew_app.specs.Subgraphs.{IsGoodGraph, maps_meaning}
use Rattle.yew_app.proofs.Unreadable.{map_told, file-unreadable, second-name}
use Rattle.yew_app.proofs.subgraph.SubgraphJobReadJob.read.Goals as goal

pub returns-in-Err-read_file-clause-refused : goal.returns-in-Err-read_file-clause-refused
returns-in-Err-read_file-clause-refused g c =
    let files = g.S.Shelf.files c.args.shelf.now in
    let pattern = c.args.self.now.pattern.now in
    let target = c.args.self.now.target.now in
    let m = maps_meaning pattern target in
    let graph = c.in-Ok.graph in
    file-unreadable m IsGraphOffence (IsPastLimit 1024) files target (second-name pattern target [])
    (map_told files (λ told. IsRead (IsGoodGraph 64) told pattern graph) (λ told. m.Opens told target) (λ told read. inr (refl, (graph, read))) c.in-Ok.ensures.read)
    (map_told files (λ told. IsRead (IsGoodGraph 64) told pattern graph) (λ told. (reason : Reason) → IsRefusedFile IsGraphOffence (IsPastLimit 1024) told target reason → m.Refuses told reason) (λ told read reason refused. inr ((graph, read), refused)) c.in-Ok.ensures.read)
    (reason_of c.in-Err-read_file.refusal)
    (subst (λ (f : Option (List File)). IsFileReason IsGraphOffence (IsPastLimit 1024) f target (reason_of c.in-Err-read_file.refusal)) c.in-Ok.ensures.files c.in-Err-read_file.ensures.refused)

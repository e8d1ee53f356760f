use Rattle.std.proofs.Common.{◌^◌, ◌*◌, ◌+◌, ◌<◌, ◌≢◌, sym, ap, ◌∙◌, subst, refl, rules}
use Rattle.yew_lad.specs.Kids.{Kids, Takes}
use Rattle.yew_lad.proofs.KidLaws.{word-pop}
use Rattle.yew_lad.proofs.PlaceLaws.{lowest_of, after_of}
use Rattle.yew_lad.proofs.nodes.MapKids.take.Goals as goal

pub returns-clause-taken : goal.returns-clause-taken
returns-clause-taken c =
    let s = c.self.inside in
    let some : s.word.bits ≢ 0 = λ e. c.requires.some (ap (λ (k : Kids). k.bits) (sym c.self.view_is) ∙ e) in
    let fits : s.word.bits < 2 ^ 64 = search rules in
    subst (λ (old : Kids). Takes old (64 * s.word.number + lowest_of s.word.bits) (record { parent = s.parent; number = s.word.number; bits = after_of s.word.bits })) c.self.view_is
    (record { first = word-pop s.word.number s.word.bits some fits; same_parent = refl; same_number = refl })

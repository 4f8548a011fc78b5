use Rattle.std.proofs.Common.{◌≡◌, sym, ap, subst, ◌∙◌, refl}
use Rattle.std.proofs.lemmas.Option.{same_Some}
use Rattle.barrier_once.specs.declared.share.RoundShare.{RoundShare}
use Rattle.barrier_once.proofs.Visits.{entered_own, held_back}
use Rattle.barrier_once.proofs.calls.total.Goals as goal

pub returns-clause-held : goal.returns-clause-held
returns-clause-held g c = held_back c.args.me.now c.acquire-cell.new.me c.release.new.me c.args.at.now.sum.0 c.acquire-cell.result c.requires.lacks c.acquire-cell.ensures.held c.release.ensures.held

pub returns-clause-answer : goal.returns-clause-answer
returns-clause-answer g c = λ s j mine odd.
    let own = c.requires.share in
    let known = c.acquire-cell.ensures.fits c.args.p.now.world s c.requires.world mine in
    let same = same_Some own.0 s (sym own.2 ∙ mine) in
    c.sum.ensures ∙ (known.sum (ap (λ l. l.sum.0) c.requires.placed.world)).total j odd (subst (λ (u : RoundShare). u.left ≡ u.arrivals) same own.3)

pub returns-clause-stint : goal.returns-clause-stint
returns-clause-stint g c = λ s mine.
    let got = c.acquire-cell.ensures in
    let x = c.acquire-cell.result in
    let one = c.release.ensures.stint c.args.p.now.world s x (got.same.world ∙ c.requires.world) (got.share ∙ mine) got.holds in
    (x, entered_own c.args.at.now.sum.0 x x x s (λ t. s) c.args.me.now c.acquire-cell.new.me c.release.new.me got.same got.stints refl one)

use Rattle.std.proofs.Common.{◌≡◌, ◌⊎◌, ◌≤◌, ℕ, Option as Opt, Some, None, sym, ap, subst, ◌∙◌, refl, inl, inr}
use Rattle.barrier_once.specs.declared.cell.Cell.TheVariants.{Once}
use Rattle.barrier_once.specs.Cells.{once_of}
use Rattle.barrier_once.specs.declared.share.RoundShare.{RoundShare}
use Rattle.barrier_once.specs.Calls.{HasAgreed}
use Rattle.barrier_once.specs.Rounds.{Allowed, agreed_share, offered_after}
use Rattle.barrier_once.proofs.Visits.{entered_own, held_back, of_own}
use Rattle.barrier_once.proofs.calls.agree.Goals as goal

-- what was found or made is within the bounds, and goes where nothing else is
chosen : (found : Opt ℕ) (value most : ℕ) (post : ℕ → Type 0) → (found ≡ None → post value) → ((v : ℕ) → found ≡ Some v → value ≡ v) → ((v : ℕ) → post v → (1 ≤ v) × (v ≤ most))
    → ((v : ℕ) → found ≡ Some v → (1 ≤ v) × (v ≤ most)) → ((found ≡ None) ⊎ (found ≡ Some value)) × ((1 ≤ value) × (value ≤ most))
chosen None value most post none some within lawful = (inl refl, within value (none refl))
chosen (Some v) value most post none some within lawful =
    let same = some v refl in
    (inr (ap Some (sym same)), subst (λ k. (1 ≤ k) × (k ≤ most)) (sym same) (lawful v refl))

unoffered : (o : Opt ℕ) → ((v : ℕ) → o ≡ Some v → None ≡ Some v) → o ≡ None
unoffered None h = refl
unoffered (Some v) h = sym (h v refl)

-- what the thread has offered
has_agreed : (found : Opt ℕ) (value most : ℕ) (answers : ℕ → Type 0) (s : RoundShare) → ((v : ℕ) → answers v → (1 ≤ v) × (v ≤ most)) → (found ≡ None → answers value) → ((v : ℕ) → s.offered ≡ Some v → found ≡ Some v)
    → HasAgreed answers value s (record s { agreed = Some value; offered = offered_after found (Some value) s.offered })
has_agreed None value most answers s within none offered = inr (unoffered s.offered offered, none refl, refl)
has_agreed (Some f) value most answers s within none offered = inl refl

pub release-requires-clause-may : goal.release-requires-clause-may
release-requires-clause-may g c κs within =
    let w = c.args.p.now.world in
    let own = c.requires.share in
    let got = c.acquire-cell.ensures in
    let x = c.acquire-cell.result in
    let value = c.found_or-value.result in
    let m = c.args.at.now.once.0 in
    let mutex = ap (λ l. l.once.0) c.requires.placed.world in
    let knows = (got.fits w own.0 c.requires.world own.1).once mutex in
    let put = chosen (once_of x) value w.most _ (λ e. c.found_or-value.ensures.none (c.once.ensures ∙ e)) (λ v e. c.found_or-value.ensures.some v (c.once.ensures ∙ e)) c.requires.within knows.within in (
      x,
      got.holds,
      of_own (λ v u. Allowed v m c.acquire-cell.new.me.number x (Once (Some value)) u (agreed_share x (Once (Some value)) u)) c.acquire-cell.new.me w own.0 (got.same.world ∙ c.requires.world) (got.share ∙ own.1)
          (inr (inr (inr (inr (inr record { value = value; mutex = mutex; stays = put.0; within = put.1; now = refl; share = refl }))))),
    )

pub returns-clause-held : goal.returns-clause-held
returns-clause-held g c = held_back c.args.me.now c.acquire-cell.new.me c.release.new.me c.args.at.now.once.0 c.acquire-cell.result c.requires.lacks c.acquire-cell.ensures.held c.release.ensures.held

pub returns-clause-share : goal.returns-clause-share
returns-clause-share g c = λ s mine.
    let w = c.args.p.now.world in
    let x = c.acquire-cell.result in
    let got = c.acquire-cell.ensures in
    let value = c.found_or-value.result in
    let knows = (got.fits w s c.requires.world mine).once (ap (λ l. l.once.0) c.requires.placed.world) in (
      agreed_share x (Once (Some value)) s,
      c.release.ensures.share w s x (got.same.world ∙ c.requires.world) (got.share ∙ mine) got.holds,
      has_agreed (once_of x) value w.most _ s c.requires.within (λ e. c.found_or-value.ensures.none (c.once.ensures ∙ e)) knows.offered,
    )

pub returns-clause-fits : goal.returns-clause-fits
returns-clause-fits g c = λ s mine.
    let w = c.args.p.now.world in
    let x = c.acquire-cell.result in
    let value = c.found_or-value.result in
    let knows = (c.acquire-cell.ensures.fits w s c.requires.world mine).once (ap (λ l. l.once.0) c.requires.placed.world) in
    let none = λ (e : once_of x ≡ None). c.found_or-value.ensures.none (c.once.ensures ∙ e) in
    let some = λ (v : ℕ) (e : once_of x ≡ Some v). c.found_or-value.ensures.some v (c.once.ensures ∙ e) in
    record {
      again = λ v e. some v (knows.same v e);
      within = (chosen (once_of x) value w.most _ none some c.requires.within knows.within).1;
    }

pub returns-clause-stint : goal.returns-clause-stint
returns-clause-stint g c = λ s mine.
    let got = c.acquire-cell.ensures in
    let x = c.acquire-cell.result in
    let y = Once (Some c.found_or-value.result) in
    let one = c.release.ensures.stint c.args.p.now.world s x (got.same.world ∙ c.requires.world) (got.share ∙ mine) got.holds in (
      x,
      λ e. c.found_or-value.ensures.none (c.once.ensures ∙ e),
      entered_own c.args.at.now.once.0 x y y s (λ t. agreed_share x y s) c.args.me.now c.acquire-cell.new.me c.release.new.me got.same got.stints refl one,
    )

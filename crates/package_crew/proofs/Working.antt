-- What each thread came back with is so of all shares.
use Rattle.std.proofs.Common.{◌≡◌, ℕ, List, length, Some, sym, subst, ◌∙◌}
use Rattle.larch_actions.specs.declared.event.Event.{Event}
use Rattle.nub_rule.specs.Items.{Each}
use Rattle.nub_rule.specs.Known.{Known, Shape}
use Rattle.nub.specs.Ended.{KeepsLocks}
use Rattle.nub.proofs.Users.{all_recorded, share_count}
use Rattle.package_crew.specs.Crews.{CameBack}
use Rattle.package_crew.specs.Runs.{HasDone, HasWorked, HaveWorked}

pub have_worked : {T H W X : Type 0} (p : Shape W) (holds : List T → List H → Type 0) (did : ℕ → List Event → X → H → Type 0)
    (first threads : List (Known T H W)) (values : List T) (left : List X)
    → Each (λ n t. t.number ≡ n) first
    → Each (λ n t. CameBack (λ (was : Known T H W) x. HasDone p did was.number t x) first left n) threads
    → length left ≡ length threads → KeepsLocks holds threads values → HaveWorked p.world holds did threads values left
have_worked {T} {H} {W} {X} p holds did first threads values left numbered back many locks =
    let each : Each (λ n t. (s : H) × (t.share ≡ Some s) × HasWorked did threads left n s) threads = λ n t at.
    let b = back n t at in
    let own = b.goes in
    (own.0, own.1.share, record { left = b.left; is_left = b.is_left; thread = t; is_thread = at; goes = subst (λ k. did k t.mine b.left own.0) (numbered n b.was b.is_was) own.2 }) in
    record {
      same = λ n t at. let own = (back n t at).goes in (own.1.number ∙ numbered n (back n t at).was (back n t at).is_was, own.1.world);
      shares = locks.shares;
      each_share = locks.each_share;
      count = share_count threads locks.shares locks.each_share ∙ sym many;
      kept = locks.kept;
      each = all_recorded (HasWorked did threads left) threads locks.shares locks.each_share each;
    }

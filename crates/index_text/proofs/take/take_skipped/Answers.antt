use Rattle.std.proofs.Common.{List, ℕ, subst, sym, refl}
use Rattle.std.specs.Option.{option_copied}
use Rattle.exact_text.proofs.Reported.{same_reported, fault_reported}
use Rattle.index_text.specs.Next.{IsLastPath}
use Rattle.index_text.specs.Offered.{with_skipped}
use Rattle.index_text.proofs.Taken.{last_is, skip_taken, skip_stuck}
use Rattle.index_text.proofs.take.take_skipped.Goals as goal

pub next_skipped-requires : goal.next_skipped-requires
next_skipped-requires g c =
    let r = c.requires in
    subst IsLastPath (sym (c.last_skipped.ensures r.0 r.1 r.2)) (last_is r.1 r.3)

pub returns-in-Ok-skip-clause-taken : goal.returns-in-Ok-skip-clause-taken
returns-in-Ok-skip-clause-taken g c = λ first t k are.
    let out = c.next_skipped.new.out.items in
    (with_skipped out t, subst (λ (p : List ℕ). g.T.Taker.keeps first (with_skipped p t) c.skip.new.self) c.deref.ensures.value (c.in-Ok-skip.ensures first t k), skip_taken (option_copied c.last_skipped.result) t (with_skipped out t) c.args.intake.now c.next_skipped.new.intake (g.I.Source.left c.args.input.now) (g.I.Source.left c.next_skipped.new.input) (g.I.Source.faults c.args.input.now) (g.I.Source.faults c.next_skipped.new.input) out (c.last_skipped.ensures first t k) c.in-Ok.ensures.taken refl)

pub returns-in-Ok-skip-clause-reported : goal.returns-in-Ok-skip-clause-reported
returns-in-Ok-skip-clause-reported g c = same_reported _ _ _ c.in-Ok.ensures.reported.unfailed

pub returns-in-Err-skip-clause-taken : goal.returns-in-Err-skip-clause-taken
returns-in-Err-skip-clause-taken g c = λ first t k are. (t, tt, tt)

pub returns-in-Err-skip-clause-reported : goal.returns-in-Err-skip-clause-reported
returns-in-Err-skip-clause-reported g c = same_reported _ _ _ c.in-Ok.ensures.reported.unfailed

pub returns-in-Err-clause-taken : goal.returns-in-Err-clause-taken
returns-in-Err-clause-taken g c = λ first t k are.
    (t, tt, skip_stuck (option_copied c.last_skipped.result) t t c.args.intake.now c.next_skipped.new.intake (g.I.Source.left c.args.input.now) (g.I.Source.left c.next_skipped.new.input) (g.I.Source.faults c.args.input.now) (g.I.Source.faults c.next_skipped.new.input) c.next_skipped.new.out.items c.in-Err.fault (c.last_skipped.ensures first t k) c.in-Err.ensures.taken)

pub returns-in-Err-clause-reported : goal.returns-in-Err-clause-reported
returns-in-Err-clause-reported g c = fault_reported _ _ _ c.in-Err.fault refl c.in-Err.ensures.reported

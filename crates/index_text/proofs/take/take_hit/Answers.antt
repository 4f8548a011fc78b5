use Rattle.std.proofs.Common.{List, ℕ, subst, sym, refl}
use Rattle.std.specs.Option.{option_copied}
use Rattle.exact_text.proofs.Reported.{same_reported, fault_reported}
use Rattle.word_index.specs.Index.{Hit}
use Rattle.index_text.specs.Next.{IsLastPath}
use Rattle.index_text.specs.Offered.{with_hit}
use Rattle.index_text.proofs.Taken.{last_hit_is, hit_taken, hit_stuck}
use Rattle.index_text.proofs.take.take_hit.Goals as goal

pub next_hit-requires : goal.next_hit-requires
next_hit-requires g c =
    let r = c.requires in
    subst IsLastPath (sym (c.last_path.ensures r.0 r.1 r.2)) (last_hit_is r.1 r.3)

pub returns-in-Ok-hit-clause-taken : goal.returns-in-Ok-hit-clause-taken
returns-in-Ok-hit-clause-taken g c = λ first t k are.
    let out = c.next_hit.new.out.items in
    let figures = c.in-Ok.figures in
    let hit = λ (p : List ℕ). let h : Hit = record { path = p; count = figures.0; line = figures.1 } in h in
    (with_hit (hit out) t, subst (λ (p : List ℕ). g.T.Taker.keeps first (with_hit (hit p) t) c.hit.new.self) c.deref.ensures.value (c.in-Ok-hit.ensures first t k), hit_taken (option_copied c.last_path.result) t (with_hit (hit out) t) c.args.intake.now c.next_hit.new.intake (g.I.Source.left c.args.input.now) (g.I.Source.left c.next_hit.new.input) (g.I.Source.faults c.args.input.now) (g.I.Source.faults c.next_hit.new.input) out figures (c.last_path.ensures first t k) c.in-Ok.ensures.taken refl)

pub returns-in-Ok-hit-clause-reported : goal.returns-in-Ok-hit-clause-reported
returns-in-Ok-hit-clause-reported g c = same_reported _ _ _ c.in-Ok.ensures.reported.unfailed

pub returns-in-Err-hit-clause-taken : goal.returns-in-Err-hit-clause-taken
returns-in-Err-hit-clause-taken g c = λ first t k are. (t, tt, tt)

pub returns-in-Err-hit-clause-reported : goal.returns-in-Err-hit-clause-reported
returns-in-Err-hit-clause-reported g c = same_reported _ _ _ c.in-Ok.ensures.reported.unfailed

pub returns-in-Err-clause-taken : goal.returns-in-Err-clause-taken
returns-in-Err-clause-taken g c = λ first t k are.
    (t, tt, hit_stuck (option_copied c.last_path.result) t t c.args.intake.now c.next_hit.new.intake (g.I.Source.left c.args.input.now) (g.I.Source.left c.next_hit.new.input) (g.I.Source.faults c.args.input.now) (g.I.Source.faults c.next_hit.new.input) c.next_hit.new.out.items c.in-Err.fault (c.last_path.ensures first t k) c.in-Err.ensures.taken)

pub returns-in-Err-clause-reported : goal.returns-in-Err-clause-reported
returns-in-Err-clause-reported g c = fault_reported _ _ _ c.in-Err.fault refl c.in-Err.ensures.reported

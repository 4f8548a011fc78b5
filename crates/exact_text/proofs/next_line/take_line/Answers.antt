use Rattle.std.proofs.Common.{◌≡◌, ◌⊎◌, ◌∙◌, ℕ, List, length, inl, inr, ap, sym, arith}
use Rattle.std.proofs.KnownBytes.{Keeps-trans}
use Rattle.exact_text.specs.Intake.{rest_of}
use Rattle.exact_text.proofs.Stuck.{read_outcome, length_outcome, more_short, stuck_dead, stuck_cut, stuck_fault, Keeps-after}
use Rattle.exact_text.proofs.Reported.{same_reported, fault_reported}
use Rattle.exact_text.proofs.next_line.take_line.Goals as goal

pub returns-in-Ok-clause-line : goal.returns-in-Ok-clause-line
returns-in-Ok-clause-line g c =
    read_outcome (g.met.L.NextLine.is_exact c.args.next.now c.requires) _ _ _ _ _ c.loop-line.invariant.rest c.in-Ok.ensures.line

pub returns-in-Ok-clause-room : goal.returns-in-Ok-clause-room
returns-in-Ok-clause-room g c =
    let l = length_outcome (g.met.L.NextLine.is_exact c.args.next.now c.requires) _ _ _ c.in-Ok.ensures.line in
    omega (arith, c.loop-line.invariant.room, c.in-Ok.ensures.given, c.in-Ok.ensures.budget)

pub returns-in-Err-Dead-clause-fault : goal.returns-in-Err-Dead-clause-fault
returns-in-Err-Dead-clause-fault g c =
    let h = c.in-Err-Dead.ensures in
    stuck_dead (g.met.L.NextLine.is_exact c.args.next.now c.requires) _ _ c.loop-line.intake.window _ _ _ (omega (arith, c.loop-line.invariant.lines, h.same_lines)) c.loop-line.invariant.rest
    (omega (arith, c.loop-line.invariant.room)) (rw c.in-Err-Dead.field-0-is at h.stop)

pub fill-requires : goal.fill-requires
fill-requires g c =
    let h = c.in-Err-More.ensures in
    let short = g.met.L.NextLine.is_line c.args.next.now c.requires in
    omega (arith, more_short (g.met.L.NextLine.is_exact c.args.next.now c.requires) 65536 (λ x l. (short x l).1) c.loop-line.intake.window (rw c.in-Err-More.field-0-is at h.stop), ap length h.same_window)

pub returns-in-Ok-false-clause-fault : goal.returns-in-Ok-false-clause-fault
returns-in-Ok-false-clause-fault g c =
    let h = c.in-Err-More.ensures in
    let f = rw c.in-Ok-false.field-0-test at c.in-Ok-false.ensures.filled in
    stuck_cut (g.met.L.NextLine.is_exact c.args.next.now c.requires) _ (g.I.Source.left c.fill.new.input) c.loop-line.intake.window _ _ _ (omega (arith, c.loop-line.invariant.lines, h.same_lines, f.0.1))
    (Keeps-after _ _ _ _ c.loop-line.invariant.rest f.3) f.4 (omega (arith, c.loop-line.invariant.room)) (rw c.in-Err-More.field-0-is at h.stop)

pub returns-in-Err-clause-fault : goal.returns-in-Err-clause-fault
returns-in-Err-clause-fault g c =
    let h = c.in-Err-More.ensures in
    let e = rw c.in-Err-More.field-0-is at h.stop in
    stuck_fault (g.met.L.NextLine.is_exact c.args.next.now c.requires) c.read.new.intake c.fill.new.self _ _ _ _ _ _ _ _ c.in-Err.fault c.in-Err.ensures.filled (rw h.same_window c.loop-line.invariant.rest)
    (omega (arith, c.loop-line.invariant.room, h.given, h.budget, ap length h.same_window)) c.loop-line.invariant.later (rw h.same_window e)

-- what the first bytes held said they still say
first_said : {A P : Type 0} (read : List ℕ → A) (e : A) (start here : List ℕ) → (P × (here ≡ start)) ⊎ (read start ≡ e) → read here ≡ e → read start ≡ e
first_said read e start here (inl same) now = ap read (sym same.1) ∙ now
first_said read e start here (inr was) now = was

pub loop-line-preserved : goal.loop-line-preserved
loop-line-preserved g c =
    let h = c.in-Err-More.ensures in
    let i = c.loop-line.invariant in
    let f = rw c.in-Ok-true.field-0-test at c.in-Ok-true.ensures.filled in
    record {
      lines = f.0.1 ∙ (h.same_lines ∙ i.lines);
      budget = f.0.0 ∙ (h.budget ∙ i.budget);
      room = omega (arith, i.room, h.given, h.budget, ap length h.same_window, f.2);
      rest = Keeps-trans (rest_of c.args.intake.now (g.I.Source.left c.args.input.now)) (rest_of c.read.new.intake (g.I.Source.left c.loop-line.input)) (rest_of c.fill.new.self (g.I.Source.left c.fill.new.input)) (rw h.same_window i.rest) f.3;
      untouched = inr (first_said (g.L.NextLine.reads c.args.next.now) _ c.args.intake.now.window c.loop-line.intake.window i.untouched (rw c.in-Err-More.field-0-is at h.stop));
      later = omega (arith, i.later, c.in-Ok-true.ensures.reported.later);
      unfailed = c.in-Ok-true.ensures.reported.unfailed ∙ i.unfailed;
    }

pub returns-in-Ok-clause-reported : goal.returns-in-Ok-clause-reported
returns-in-Ok-clause-reported g c = same_reported _ _ _ c.loop-line.invariant.unfailed

pub returns-in-Err-Dead-clause-reported : goal.returns-in-Err-Dead-clause-reported
returns-in-Err-Dead-clause-reported g c = same_reported _ _ _ c.loop-line.invariant.unfailed

pub returns-in-Ok-false-clause-reported : goal.returns-in-Ok-false-clause-reported
returns-in-Ok-false-clause-reported g c = same_reported _ _ _ (c.in-Ok-false.ensures.reported.unfailed ∙ c.loop-line.invariant.unfailed)

pub returns-in-Err-clause-reported : goal.returns-in-Err-clause-reported
returns-in-Err-clause-reported g c = fault_reported _ _ _ c.in-Err.fault c.loop-line.invariant.unfailed c.in-Err.ensures.reported

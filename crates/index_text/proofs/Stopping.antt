-- A line that more bytes may complete.
use Rattle.std.proofs.Common.{◌≡◌, inl, inr, ℕ, ◌+◌, ◌-◌, ◌<◌, ◌≤◌, List, length, length-append, drop, refl, ap, sym, subst, ◌∙◌, Result, Ok, Err, Option, true, arith}
use Rattle.std.proofs.KnownBytes.{Keeps-trans}
use Rattle.std.proofs.lemmas.List.{drop_at}
use Rattle.exact_text.specs.declared.intake.Intake.{Intake}
use Rattle.exact_text.specs.declared.stop.Stop as exact
use Rattle.exact_text.specs.declared.stop.Stop.TheVariants as stops
use Rattle.exact_text.specs.declared.fault.TextFault.{TextFault}
use Rattle.exact_text.specs.declared.fault.TextFault.TheVariants as fault
use Rattle.exact_text.specs.Codes.{IsCode}
use Rattle.exact_text.specs.Exact.{IsStuck, OrMemory}
use Rattle.exact_text.specs.Prefixes.{IsLine}
use Rattle.exact_text.specs.Intake.{IsFilled, rest_of, room_of}
use Rattle.exact_text.proofs.Grammar.{line_some}
use Rattle.exact_text.proofs.Stuck.{read_outcome, length_outcome, stuck_dead, stuck_cut, stuck_fault, Keeps-after, Keeps-refl}
use Rattle.index_text.specs.declared.fault.Stop.{Stop}
use Rattle.index_text.specs.declared.fault.Stop.TheVariants.{Memory, More, Dead}
use Rattle.index_text.specs.Next.{Tries, GoesOn, TakesLine}
use Rattle.index_text.specs.Steps.{Stops}
use Rattle.index_text.specs.Long.{IsWaiting}

pub waits : (start : Intake) (left : Option (List ℕ)) (before : ℕ) → IsWaiting start start left left before before
waits start left before = record { lines = refl; room = refl; rest = Keeps-refl (rest_of start left); unfailed = refl; given = omega arith; budget = refl }

module _ {start now : Intake} {left left' : Option (List ℕ)} {before since : ℕ} (w : IsWaiting start now left left' before since) where
  -- more came
  pub waits_on : (mid new : Intake) (there : Option (List ℕ)) (later : ℕ) (stop : Stop) → mid ≡ now → GoesOn stop mid new left' there since later (Ok tt) → later ≡ since → IsWaiting start new left there before later
  waits_on mid new there later stop same g reported =
      let f = subst (λ (m : Intake). IsFilled m new left' there since later (Ok true)) same g.1 in
      record {
        lines = f.0.1 ∙ w.lines;
        room = f.2 ∙ w.room;
        rest = Keeps-trans (rest_of start left) (rest_of now left') (rest_of new there) w.rest f.3;
        unfailed = reported ∙ w.unfailed;
        given = omega (arith, w.given, f.1);
        budget = f.0.0 ∙ w.budget;
      }

  module _ {X Y : Type 0} {lawful : X → Type 0} {text : X → List ℕ} {read : List ℕ → Result (X × List ℕ) exact.Stop} (code : IsCode lawful text read) (says : Y → X → Type 0) where
    -- the line was read
    pub line_taken : (new : Intake) (y : Y) → Tries read says now new (Ok y) → (later : ℕ) → TakesLine lawful text read says start new left left' before later (Ok y)
    line_taken new y h later =
        let o = read_outcome code (rest_of start left) left' now.window new.window h.0 w.rest h.2 in
        let l = length_outcome code now.window new.window h.0 h.2 in
        (h.0, h.1, o.0, record { consumed = o.1; room = omega (arith, w.room, l, h.4, h.5, now.within, new.within); lines = omega (arith, w.lines, h.3) })

    -- it wasn't, and why
    pub line_stuck : (mid new : Intake) (there : Option (List ℕ)) (later : ℕ) (stop : Stop) (f : TextFault) → Stops (read now.window) stop → mid ≡ now → GoesOn stop mid new left' there since later (Err f)
        → TakesLine lawful text read says start new left there before later (Err f)
    line_stuck mid new there later stop f s same g = by stop f s (subst (λ (m : Intake). GoesOn stop m new left' there since later (Err f)) same g)
      where
        r : Option (List ℕ)
        r = rest_of start left

        more_is : (stop : Stop) → Stops (read now.window) stop → stop ≡ More → read now.window ≡ Err stops.More
        more_is Memory h e = absurd (cc)
        more_is More h e = h
        more_is Dead h e = absurd (cc)

        dead_is : (stop : Stop) → Stops (read now.window) stop → stop ≡ Dead → read now.window ≡ Err stops.Dead
        dead_is Memory h e = absurd (cc)
        dead_is More h e = absurd (cc)
        dead_is Dead h e = h

        wide : length now.window ≤ room_of start
        wide = omega (arith, w.room)

        begun : before ≤ since
        begun = omega (arith, w.unfailed)

        by : (stop : Stop) (f : TextFault) → Stops (read now.window) stop → GoesOn stop now new left' there since later (Err f) → OrMemory (IsStuck read start.lines (room_of start) r there before later) f
        by stop fault.Memory s g = tt
        by stop (fault.BadLine k) s g =
            let one : k ≡ start.lines + 1 = omega (arith, g.0, w.lines) in
            elim g.1 [
              | inl d ↦ stuck_dead code r left' now.window start.lines (room_of start) k one w.rest wide (dead_is stop s d.0)
              | inr m ↦ stuck_cut code r there now.window start.lines (room_of start) k one (Keeps-after r left' there now.window w.rest m.1.3) m.1.4 wide (more_is stop s m.0)
            ]
        by stop fault.TooLong s g = stuck_fault code now new r left' there start.lines (room_of start) before since later fault.TooLong g.1 w.rest w.room begun (more_is stop s g.0)
        by stop fault.Read s g = stuck_fault code now new r left' there start.lines (room_of start) before since later fault.Read g.1 w.rest w.room begun (more_is stop s g.0)

-- the line that was read is passed over
module _ {X : Type 0} {lawful : X → Type 0} {text : X → List ℕ} {read : List ℕ → Result (X × List ℕ) exact.Stop} (code : IsCode lawful text read) (bytes window rest : List ℕ) (x : X) (same : bytes ≡ window) (e : read bytes ≡ Ok (x, rest)) where
  pub rest_shorter : length rest ≤ length bytes
  rest_shorter = let f = code.found bytes rest x e in omega (arith, ap length f.1, length-append (text x) rest)

  pub passed : (new : List ℕ) → new ≡ drop (length bytes - length rest) window → read window ≡ Ok (x, new)
  passed new d =
      let f = code.found bytes rest x e in
      let used : length (text x) ≡ length bytes - length rest = omega (arith, ap length f.1, length-append (text x) rest) in
      let left : new ≡ rest = d ∙ ap (drop (length bytes - length rest)) (sym same ∙ f.1) ∙ drop_at (text x) rest (length bytes - length rest) used in
      ap read (sym same) ∙ e ∙ ap (λ r. Ok (x, r)) (sym left)

  pub used_some : ((x : X) → lawful x → IsLine (text x)) → 0 < length bytes - length rest
  used_some lines = let f = code.found bytes rest x e in omega (arith, line_some (text x) (lines x f.0), ap length f.1, length-append (text x) rest)

  pub used_within : length bytes - length rest ≤ length window
  used_within = omega (arith, ap length same)

-- What the three threads leave together.
use Rattle.std.proofs.Common.{◌≡◌, ◌≢◌, ℕ, suc, false, true, List, [], ◌∷◌, map, length, arith, sym, ap, subst, ◌∙◌, refl, ⊎_elim, Some}
use Rattle.std.proofs.lemmas.List.{length-map}
use Rattle.std.proofs.lemmas.List.FromFn.{length-range_with_len}
use mathlib.Core.Option.{some, some-injective}
use lib.ListN.{get_elem?}
use Rattle.nub_rule.specs.Items.{Each}
use Rattle.nub_rule.specs.Known.{Shape}
use Rattle.nub_rule.proofs.Each.{each-none}
use Rattle.nub.specs.Ended.{KeepsLocks}
use Rattle.nub.proofs.Users.{all_recorded, share_count, share_of}
use Rattle.bounded_buffer.specs.declared.note.Note.{Note}
use Rattle.bounded_buffer.specs.Parts.{Used}
use Rattle.bounded_buffer.specs.Plain.{Keeps, part_of}
use Rattle.bounded_buffer.specs.Rings.{Held, fresh}
use Rattle.bounded_buffer.specs.Using.{Falls, items_of, settled}
use Rattle.bounded_buffer.proofs.Alone.{never_shut, went_through}
use Rattle.bounded_buffer.proofs.Opening.{first_then}
use Rattle.example_pipeline.specs.declared.stages.Came.{Came}
use Rattle.example_pipeline.specs.Stages.{squared, numbers, squares, IsStage, IsOver, HasEnded, HasPassed, Passed, Worker}

-- the share of the thread n says that it has done its stage, and left this
pub record Shows (count : ℕ) (lefts : List Came) (n : ℕ) (s : List (Note ℕ)) : Type 0 where
  pub left : Came
  pub is_left : get_elem? lefts n ≡ some left
  pub stage : IsStage count left n (settled (part_of s 0)) (settled (part_of s 1))
  pub ordered : (k : ℕ) → Falls (part_of s k).puts × Falls (part_of s k).takes

-- what a thread has done, its share says
recorded : (count : ℕ) (lefts : List Came) (p : Shape (Unit {0})) (n : ℕ) (t : Worker) → (left : Came) × (get_elem? lefts n ≡ some left) × HasEnded (IsStage count left n) p n t
    → (s : List (Note ℕ)) × (t.share ≡ Some s) × Shows count lefts n s
recorded count lefts p n t h =
    let used = h.2.used in
    let said = used.said in (
      used.share,
      used.idle.share,
      record {
        left = h.0;
        is_left = h.1;
        stage = subst (λ (u : Used ℕ × Used ℕ). IsStage count h.0 n u.0 u.1) (λ i. (sym (said 0 h.2.first refl) i, sym (said 1 h.2.second refl) i)) h.2.stage;
        ordered = used.ordered;
      },
    )

-- what went in came out, squared and in order, and nothing is left
pub record Passes (count : ℕ) (came : Came) (shares : List (List (Note ℕ))) (values : List (Held ℕ)) : Type 0 where
  pub each : Each (λ n s. Passed count n (part_of s 0) (part_of s 1)) shares
  pub out : came.lost ≡ false → came.items.items ≡ squares count
  pub over : Each (IsOver count) values

passes : (count : ℕ) (came : Came) (lefts : List Came) (shares : List (List (Note ℕ))) (values : List (Held ℕ)) → get_elem? lefts 2 ≡ some came → Keeps values shares → Each (Shows count lefts) shares
    → length shares ≡ 3 → length values ≡ 2 → Passes count came shares values
passes count came lefts (s ∷ r ∷ u ∷ []) (q ∷ v ∷ []) last kept each three two =
    let shares = s ∷ r ∷ u ∷ [] in
    let a = each 0 s refl in
    let b = each 1 r refl in
    let c = each 2 u refl in
    let one = kept 0 q refl in
    let other = kept 1 v refl in
    let all : (P : ℕ → List (Note ℕ) → Type 0) → P 0 s → P 1 r → P 2 u → Each P shares = λ P x y z. first_then P s (r ∷ u ∷ []) x (first_then (λ n. P (suc n)) r (u ∷ []) y (first_then (λ n. P (suc (suc n))) u [] z (each-none (λ n. P (suc (suc (suc n)))) [] refl))) in
    let made : items_of (part_of s 0).puts ≡ numbers count = ⊎_elim
    (λ (h : (items_of (part_of s 0).puts ≡ numbers count) × ((part_of s 0).shut ≡ true)). h.0)
    (λ (h : ((part_of s 0).shut ≡ false) × ((part_of s 0).seen_shut ≡ true)). absurd (never_shut 0 q shares (all (λ n x. (part_of x 0).shut ≡ false) h.0 b.stage.opened (ap (λ (w : Used ℕ). w.shut) c.stage.none)) one 0 s refl h.1))
    a.stage.ends in
    let worked : ((part_of r 0).seen_end ≡ true) × (items_of (part_of r 1).puts ≡ map squared (items_of (part_of r 0).takes)) = ⊎_elim
    (λ (h : ((part_of r 0).seen_end ≡ true) × (items_of (part_of r 1).puts ≡ map squared (items_of (part_of r 0).takes)) × ((part_of r 1).shut ≡ true)). (h.0, h.1))
    (λ (h : ((part_of r 1).shut ≡ false) × ((part_of r 1).seen_shut ≡ true)). absurd (never_shut 1 v shares (all (λ n x. (part_of x 1).shut ≡ false) (ap (λ (w : Used ℕ). w.shut) a.stage.others) h.0 c.stage.opened) other 1 r refl h.1))
    b.stage.ends in
    let prefix = went_through 0 q shares 0 1 s r refl refl (a.ordered 0).0 (b.ordered 0).1
    (all (λ n x. n ≢ 0 → (part_of x 0).puts ≡ []) (λ o. absurd (o refl)) (λ o. b.stage.puts) (λ o. ap (λ (w : Used ℕ). w.puts) c.stage.none))
    (all (λ n x. n ≢ 1 → (part_of x 0).takes ≡ []) (λ o. a.stage.takes) (λ o. absurd (o refl)) (λ o. ap (λ (w : Used ℕ). w.takes) c.stage.none)) worked.0 one in
    let back = went_through 1 v shares 1 2 r u refl refl (b.ordered 1).0 (c.ordered 1).1
    (all (λ n x. n ≢ 1 → (part_of x 1).puts ≡ []) (λ o. ap (λ (w : Used ℕ). w.puts) a.stage.others) (λ o. absurd (o refl)) (λ o. c.stage.puts))
    (all (λ n x. n ≢ 2 → (part_of x 1).takes ≡ []) (λ o. ap (λ (w : Used ℕ). w.takes) a.stage.others) (λ o. b.stage.takes) (λ o. absurd (o refl))) c.stage.end other in
    let numbered : items_of (part_of r 0).takes ≡ numbers count = prefix.same ∙ made in
    let squared_all : items_of (part_of r 1).puts ≡ squares count = worked.1 ∙ ap (map squared) numbered in
    let came_out : items_of (part_of u 1).takes ≡ squares count = back.same ∙ squared_all in
    let long : length (numbers count) ≡ count = length-range_with_len 0 count in
    let mine : c.left ≡ came = some-injective c.left came (sym c.is_left ∙ last) in
    record {
      each = all (λ n x. Passed count n (part_of x 0) (part_of x 1)) (record { rises = (a.ordered 0).0; are = made })
          (record { rises = (b.ordered 0).1; are = numbered }, record { rises = (b.ordered 1).0; are = squared_all }) (record { rises = (c.ordered 1).1; are = came_out });
      out = λ whole. subst (λ (l : Came). l.lost ≡ false → l.items.items ≡ items_of (part_of u 1).takes) mine c.stage.kept whole ∙ came_out;
      over = first_then (IsOver count) q (v ∷ []) (record { taken = prefix.taken ∙ ap length made ∙ long; empty = prefix.empty; shut = prefix.shut })
          (first_then (λ n. IsOver count (suc n)) v [] (record { taken = back.taken ∙ ap length squared_all ∙ length-map (numbers count) squared ∙ long; empty = back.empty; shut = back.shut })
          (each-none (λ n. IsOver count (suc (suc n))) [] refl));
    }
passes count came lefts shares values last kept each three two = absurd (omega arith)

-- what is left when the package is closed
pub record Closes (count : ℕ) (came : Came) (threads : List Worker) (values : List (Held ℕ)) : Type 0 where
  pub passed : Each (HasPassed count) threads
  pub out : came.lost ≡ false → came.items.items ≡ squares count
  pub over : Each (IsOver count) values

pub closes : (count : ℕ) (came : Came) (p : Shape (Unit {0})) (threads : List Worker) (lefts : List Came) (values : List (Held ℕ)) → KeepsLocks Keeps threads values → length threads ≡ 3
    → length values ≡ 2 → get_elem? lefts 2 ≡ some came
    → Each (λ n t. (left : Came) × (get_elem? lefts n ≡ some left) × HasEnded (IsStage count left n) p n t) threads → Closes count came threads values
closes count came p threads lefts values locks three two last ended =
    let shares = locks.shares in
    let each = all_recorded (Shows count lefts) threads shares locks.each_share (λ n t at. recorded count lefts p n t (ended n t at)) in
    let all = passes count came lefts shares values last locks.kept each (share_count threads shares locks.each_share ∙ three) two in
    record {
      passed = λ n t at. let own = share_of threads shares locks.each_share n t at in record { share = own.0; is_share = own.2; passed = all.each n own.0 own.1 };
      out = all.out;
      over = all.over;
    }

-- both rings are new
pub both_new : (values : List (Held ℕ)) → values ≡ fresh 16 ∷ fresh 16 ∷ [] → Each (λ m q. (c : ℕ) × (q ≡ fresh c)) values
both_new values is = subst (λ l. Each (λ m q. (c : ℕ) × (q ≡ fresh c)) l) (sym is)
    (first_then (λ m q. (c : ℕ) × (q ≡ fresh c)) (fresh 16) (fresh 16 ∷ []) (16, refl) (first_then (λ m q. (c : ℕ) × (q ≡ fresh c)) (fresh 16) [] (16, refl) (each-none (λ m q. (c : ℕ) × (q ≡ fresh c)) [] refl)))

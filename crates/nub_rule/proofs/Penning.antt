-- The pen is taken and given, the number is read and written.
use Rattle.std.proofs.Common.{Bool, true, false, ◌≡◌, ◌≢◌, ℕ, ◌<◌, ◌+◌, eqb, ◌≤◌, ◌⊎◌, List, ◌++◌, length, get_or, set, refl, sym, ap, ◌∙◌, subst, inl, inr, ⊎_elim, arith, length-set, get_or-set_same, eq-eqb, ne_eqb}
use mathlib.Core.Logic.{dite}
use mathlib.Core.Option.{Option, some, none, some-injective, some-ne-none}
use native.Mathlib.Decide.{ℕ_discrete}
use prog.Atomic.{either}
use lib.ListN.{get_elem?}
use Rattle.larch_actions.specs.declared.event.Layout.{Layout}
use Rattle.atomic_table.specs.Table.{Me, step, Allows, keeps}
use Rattle.nub_rule.specs.declared.rule.Slot.{Slot}
use Rattle.nub_rule.specs.declared.view.Part.{Part}
use Rattle.nub_rule.specs.declared.view.Pen.{Pen}
use Rattle.nub_rule.specs.declared.view.Pen.TheVariants.{No, Taken, Read, Made, Written}
use Rattle.nub_rule.specs.declared.view.View.{View}
use Rattle.nub_rule.specs.declared.view.Kind.TheVariants.{Member}
use Rattle.nub_rule.specs.Items.{Marks, PenFits, Pens, Core}
use Rattle.nub_rule.specs.Parts.{made, MayRecord, MayGivePen}
use Rattle.nub_rule.specs.Places.{bit_at, pen_at, number_at}
use Rattle.nub_rule.specs.Plays.{with_part, take_pen_records, read_number_records, write_number_records, give_pen_records}
use Rattle.nub_rule.specs.Rule.{IsKept}
use Rattle.nub_rule.proofs.Each.{at_within, each-set}
use Rattle.nub_rule.proofs.Idle.{idle-penned, idle-same}
use Rattle.nub_rule.proofs.Members.{member_steps}
use Rattle.nub_rule.proofs.Frames.{lives-stay, other, spins-frame, lines-frame, shows-frame, bits-stay, ready-stay, spins-stay, shown-stay, alert-seen-stays}
use Rattle.nub_rule.proofs.Beginning.{waits-stay, begun-same}
use Rattle.nub_rule.proofs.Owing.{owes-frame}
use Rattle.nub_rule.proofs.Spinning.{taken-by}
use Rattle.nub_rule.proofs.Beside.{Alike, beside, idle}

same_pen : {A : Type 0} (a b c : A) → a ≡ b → a ≡ c → b ≡ c
same_pen a b c e f = sym e ∙ f

-- the pen of another thread than n, where n has it after or before
others-taken : (total word k n : ℕ) (pen : Pen) → k ≢ n → PenFits total word none k pen → PenFits total word (some n) k pen
others-taken total word k n No ne f = λ e. ne (sym (some-injective n k e))
others-taken total word k n Taken ne f = absurd (some-ne-none k (sym f.0))
others-taken total word k n (Read r) ne f = absurd (some-ne-none k (sym f.0))
others-taken total word k n (Made r) ne f = absurd (some-ne-none k (sym f.0))
others-taken total word k n Written ne f = absurd (some-ne-none k (sym f.0))

others-given : (total word k n : ℕ) (pen : Pen) → k ≢ n → PenFits total word (some n) k pen → PenFits total word none k pen
others-given total word k n No ne f = λ e. some-ne-none k (sym e)
others-given total word k n Taken ne f = absurd (ne (sym (some-injective n k f.0)))
others-given total word k n (Read r) ne f = absurd (ne (sym (some-injective n k f.0)))
others-given total word k n (Made r) ne f = absurd (ne (sym (some-injective n k f.0)))
others-given total word k n Written ne f = absurd (ne (sym (some-injective n k f.0)))

-- while n has the pen, neither the number nor the count of events matters to another
others-kept : (total word total' word' k n : ℕ) (pen : Pen) → k ≢ n → PenFits total word (some n) k pen → PenFits total' word' (some n) k pen
others-kept total word total' word' k n No ne f = f
others-kept total word total' word' k n Taken ne f = absurd (ne (sym (some-injective n k f.0)))
others-kept total word total' word' k n (Read r) ne f = absurd (ne (sym (some-injective n k f.0)))
others-kept total word total' word' k n (Made r) ne f = absurd (ne (sym (some-injective n k f.0)))
others-kept total word total' word' k n Written ne f = absurd (ne (sym (some-injective n k f.0)))

-- nobody has the pen
nobodys : (total word total' k : ℕ) (pen : Pen) → PenFits total word none k pen → PenFits total' word none k pen
nobodys total word total' k No f = f
nobodys total word total' k Taken f = absurd (some-ne-none k (sym f.0))
nobodys total word total' k (Read r) f = absurd (some-ne-none k (sym f.0))
nobodys total word total' k (Made r) f = absurd (some-ne-none k (sym f.0))
nobodys total word total' k Written f = absurd (some-ne-none k (sym f.0))

nobody-made : (total word total' k : ℕ) (pen : Pen) → PenFits total word none k pen → PenFits total' word none k (made pen)
nobody-made total word total' k No f = f
nobody-made total word total' k Taken f = absurd (some-ne-none k (sym f.0))
nobody-made total word total' k (Read r) f = absurd (some-ne-none k (sym f.0))
nobody-made total word total' k (Made r) f = absurd (some-ne-none k (sym f.0))
nobody-made total word total' k Written f = absurd (some-ne-none k (sym f.0))

may-give : (total word n : ℕ) (writer : Option ℕ) (pen : Pen) → MayGivePen pen → PenFits total word writer n pen → (writer ≡ some n) × (word ≡ total)
may-give total word n writer No may f = absurd may
may-give total word n writer Taken may f = f
may-give total word n writer (Read k) may f = (f.0, f.1)
may-give total word n writer (Made k) may f = absurd may
may-give total word n writer Written may f = f

true_false : true ≡ false → ⊥
true_false e = cc

pub either_way : {A : Type 0} (b : Bool) → (b ≡ true → A) → (b ≡ false → A) → A
either_way true f g = f refl
either_way false f g = g refl

module _ {T H : Type 0} (traced : Bool) (total : ℕ) (words : List ℕ) (writer : Option ℕ) (all : List (Part T H)) (n : ℕ) (p q : Part T H) (at : get_elem? all n ≡ some p) where
  -- an event by the thread n
  pub pens-event : (words' : List ℕ) → get_or words' pen_at 0 ≡ get_or words pen_at 0 → get_or words' number_at 0 ≡ get_or words number_at 0 → MayRecord traced p.life p.pen → q.pen ≡ made p.pen → Pens traced total words writer all → Pens traced (total + 1) words' writer (set all n q)
  pens-event words' ep en may is h = either_way traced
      (λ traces.
      let r = may.1 traces in
      let old : PenFits total (get_or words number_at 0) writer n (Read r.0) = subst (PenFits total (get_or words number_at 0) writer n) r.1 (h.pens n p at) in
      let own : writer ≡ some n = old.0 in record {
        flag = subst (λ (x : ℕ). Marks x writer) (sym ep) h.flag;
        within = λ k is. subst (λ (z : ℕ). k < z) (sym (length-set all n q)) (h.within k is);
        free = λ _ none_has. absurd (some-ne-none n (sym own ∙ none_has));
        untraced = h.untraced;
        pens = each-set (λ k r. PenFits total (get_or words number_at 0) writer k r.pen) (λ k r. PenFits (total + 1) (get_or words' number_at 0) writer k r.pen) all n q
            (subst (PenFits (total + 1) (get_or words' number_at 0) writer n) (sym (is ∙ ap made r.1)) (own, (let a = old.1 in let b = old.2 in omega arith), old.2 ∙ sym en))
            (λ k s ne at' f. subst (λ (o : Option ℕ). PenFits (total + 1) (get_or words' number_at 0) o k s.pen) (sym own)
            (others-kept total (get_or words number_at 0) (total + 1) (get_or words' number_at 0) k n s.pen ne (subst (λ (o : Option ℕ). PenFits total (get_or words number_at 0) o k s.pen) own f))) h.pens;
      })
      (λ lacks.
      let out : writer ≡ none = h.untraced lacks in record {
        flag = subst (λ (x : ℕ). Marks x writer) (sym ep) h.flag;
        within = λ k is. subst (λ (z : ℕ). k < z) (sym (length-set all n q)) (h.within k is);
        free = λ traces none_has. absurd (true_false (sym traces ∙ lacks));
        untraced = h.untraced;
        pens = each-set (λ k r. PenFits total (get_or words number_at 0) writer k r.pen) (λ k r. PenFits (total + 1) (get_or words' number_at 0) writer k r.pen) all n q
            (subst (λ (z : ℕ × Option ℕ × Pen). PenFits (total + 1) z.0 z.1 n z.2) (λ i. (sym en i, sym out i, sym is i)) (nobody-made total (get_or words number_at 0) (total + 1) n p.pen (subst (λ (o : Option ℕ). PenFits total (get_or words number_at 0) o n p.pen) out (h.pens n p at))))
            (λ k s ne at' f. subst (λ (z : ℕ × Option ℕ). PenFits (total + 1) z.0 z.1 k s.pen) (λ i. (sym en i, sym out i)) (nobodys total (get_or words number_at 0) (total + 1) k s.pen (subst (λ (o : Option ℕ). PenFits total (get_or words number_at 0) o k s.pen) out f))) h.pens;
      })

  -- the number that was read is that of the event
  pub numbered-by : Pens traced total words writer all → (k : ℕ) → p.pen ≡ Read k → k ≡ total
  numbered-by h k is = let old : PenFits total (get_or words number_at 0) writer n (Read k) = subst (PenFits total (get_or words number_at 0) writer n) is (h.pens n p at) in old.2 ∙ old.1

  pub pens-take : (words' : List ℕ) → traced ≡ true → get_or words' pen_at 0 ≡ 1 → get_or words' number_at 0 ≡ get_or words number_at 0 → writer ≡ none → q.pen ≡ Taken → Pens traced total words writer all → Pens traced total words' (some n) (set all n q)
  pens-take words' traces one en out is h = record {
    flag = inr (one, (n, refl));
    within = λ k is. subst (λ (z : ℕ). k < z) (sym (length-set all n q)) (subst (λ (z : ℕ). z < length all) (some-injective n k is) (at_within all n p at));
    free = λ _ none_has. absurd (some-ne-none n none_has);
    untraced = λ lacks. absurd (true_false (sym traces ∙ lacks));
    pens = each-set (λ k r. PenFits total (get_or words number_at 0) writer k r.pen) (λ k r. PenFits total (get_or words' number_at 0) (some n) k r.pen) all n q
        (subst (PenFits total (get_or words' number_at 0) (some n) n) (sym is) (refl, en ∙ h.free traces out))
        (λ k s ne at' f. subst (λ (z : ℕ). PenFits total z (some n) k s.pen) (sym en) (others-taken total (get_or words number_at 0) k n s.pen ne (subst (λ (o : Option ℕ). PenFits total (get_or words number_at 0) o k s.pen) out f))) h.pens;
  }

  pub pens-give : (words' : List ℕ) → get_or words' pen_at 0 ≡ 0 → get_or words' number_at 0 ≡ get_or words number_at 0 → MayGivePen p.pen → q.pen ≡ No → Pens traced total words writer all → Pens traced total words' none (set all n q)
  pens-give words' zero en may is h = let old = may-give total (get_or words number_at 0) n writer p.pen may (h.pens n p at) in record {
    flag = inl (zero, refl);
    within = λ k is. absurd (some-ne-none k (sym is));
    free = λ _ _. en ∙ old.1;
    untraced = λ _. refl;
    pens = each-set (λ k r. PenFits total (get_or words number_at 0) writer k r.pen) (λ k r. PenFits total (get_or words' number_at 0) none k r.pen) all n q
        (subst (PenFits total (get_or words' number_at 0) none n) (sym is) (λ e. some-ne-none n (sym e)))
        (λ k s ne at' f. subst (λ (z : ℕ). PenFits total z none k s.pen) (sym en) (others-given total (get_or words number_at 0) k n s.pen ne (subst (λ (o : Option ℕ). PenFits total (get_or words number_at 0) o k s.pen) old.0 f))) h.pens;
  }

  -- the thread n, which has the pen, reads or writes the number
  pub pens-own : (words' : List ℕ) → get_or words' pen_at 0 ≡ get_or words pen_at 0 → writer ≡ some n → PenFits total (get_or words' number_at 0) (some n) n q.pen → Pens traced total words writer all → Pens traced total words' writer (set all n q)
  pens-own words' ep own now h = record {
    flag = subst (λ (x : ℕ). Marks x writer) (sym ep) h.flag;
    within = λ k is. subst (λ (z : ℕ). k < z) (sym (length-set all n q)) (h.within k is);
    free = λ _ none_has. absurd (some-ne-none n (sym own ∙ none_has));
    untraced = h.untraced;
    pens = each-set (λ k r. PenFits total (get_or words number_at 0) writer k r.pen) (λ k r. PenFits total (get_or words' number_at 0) writer k r.pen) all n q
        (subst (λ (o : Option ℕ). PenFits total (get_or words' number_at 0) o n q.pen) (sym own) now)
        (λ k s ne at' f. subst (λ (o : Option ℕ). PenFits total (get_or words' number_at 0) o k s.pen) (sym own) (others-kept total (get_or words number_at 0) total (get_or words' number_at 0) k n s.pen ne (subst (λ (o : Option ℕ). PenFits total (get_or words number_at 0) o k s.pen) own f))) h.pens;
  }

module _ {T H W : Type 0} (l : Layout) (traced : Bool) (w : W) (begin : W → ℕ → H) (holds : W → List T → List H → Type 0) where
  alike : (p : Part T H) (x : Pen) → Alike l traced w holds p (record p { pen = x })
  alike p x = record { version = refl; life = refl; seen = refl; mine = refl; places = refl; held = refl; share = refl; stints = refl; closing = λ m. refl }

  -- a step on the pen or the number
  with_pen : (words : List ℕ) (homes : List (Option (Slot T))) (all : List (Part T H)) (n i y : ℕ) (p : Part T H) (x : Pen) (writer' : Option ℕ) → pen_at ≤ i → i ≤ number_at → get_elem? all n ≡ some p → (c : Core l traced w holds words homes all) → Pens traced (length c.log) (set words i y) writer' (set all n (record p { pen = x }))
      → Core l traced w holds (set words i y) homes (set all n (record p { pen = x }))
  with_pen words homes all n i y p x writer' lo hi at c pens = let q : Part T H = record p { pen = x } in beside l traced w holds words (set words i y) homes homes all n p q at (length-set words i y) refl (bits-stay words i y (λ k up z. omega arith)) (lives-stay words i y (λ k up z. omega arith)) (λ m. refl) (alike p x) c.spinner writer' c.queue c.owed c
      (spins-frame all n p q at c.spinner c.queue c.owed words (set words i y) homes homes (spins-stay words i y (λ k up z. omega arith) (λ k up z. omega arith)) (λ o lo. refl) refl refl refl c.spins)
      (lines-frame all n p q at (λ o. c.owed o ++ c.queue o) words (set words i y) c.sizes.few (ready-stay words i y (λ k up z. omega arith)) refl c.lines)
      (shows-frame all n p q at c.spinner c.queue c.owner c.spec words (set words i y) (shown-stay words i y (λ k up z. omega arith) (λ k up z. omega arith) (λ k up z. omega arith)) refl refl refl refl refl c.shows)
      pens
      (alert-seen-stays all n p q at words i y c.sizes.few (λ k up z. omega arith) refl c.alert_seen)
      (owes-frame c.queue words (set words i y) all n p q at (λ k up. other words i (bit_at k) y (λ z. omega arith)) refl refl refl c.owes)
      (begun-same words (set words i y) all n p q at (waits-stay words i y (λ j up z. omega arith)) refl refl refl c.begun)

  pub take_pen_keeps : (slots id : ℕ) (me : Me (Slot T) (View T H W)) → traced ≡ true → me.0.kind ≡ Member → me.0.part.pen ≡ No → Allows (IsKept l traced w begin holds) slots id me pen_at (λ x. either (eqb x 0) 1 x) (take_pen_records (step slots pen_at 0 1 none) me)
  take_pen_keeps slots id me traces kind out = let v = me.0 in let n = v.number in let p = v.part in let q : Part T H = record p { pen = Taken } in member_steps l traced w begin holds slots id pen_at (λ x. either (eqb x 0) 1 x) v me.1
      (λ r s ds. ((r ≡ 0) × (s ≡ q) × (ds ≡ me.1)) ⊎ ((r ≡ 1) × (s ≡ p) × (ds ≡ me.1))) (take_pen_records (step slots pen_at 0 1 none) me) kind
      (λ r s ds t. ⊎_elim (λ (u : (r ≡ 0) × (s ≡ q) × (ds ≡ me.1)). idle-penned p s v.child Taken u.1) (λ (u : (r ≡ 1) × (s ≡ p) × (ds ≡ me.1)). idle-same p s v.child u.1) t)
      (λ r s ds world t. ⊎_elim
      (λ (u : (r ≡ 0) × (s ≡ q) × (ds ≡ me.1)). ((λ _. λ i. (with_part v (u.1 i), u.2 i)), λ lacks. absurd (lacks u.0)))
      (λ (u : (r ≡ 1) × (s ≡ p) × (ds ≡ me.1)). ((λ hit. let one = u.0 in absurd (omega arith)), λ _. (u.0, λ i. (with_part v (u.1 i), u.2 i)))) t)
      (λ words homes all c at small. let r : ℕ = get_or words pen_at 0 in let len = c.sizes.words_wide in dite (ℕ_discrete r 0)
      (λ hit. let free : c.writer ≡ none = ⊎_elim (λ (t : (r ≡ 0) × (c.writer ≡ none)). t.1) (λ (t : (r ≡ 1) × ((k : ℕ) × (c.writer ≡ some k))). let u = t.0 in absurd (omega arith)) c.pens.flag in (
        q,
        keeps,
        tt,
        subst (λ b. Core l traced w holds (set words pen_at (either b 1 r)) homes (set all n q)) (sym (eq-eqb r 0 hit))
            (with_pen words homes all n pen_at 1 p Taken (some n) (omega arith) (omega arith) at c
            (pens-take traced (length c.log) words c.writer all n p q at (set words pen_at 1) traces (get_or-set_same words pen_at 1 0 (omega arith)) (other words pen_at number_at 1 (λ z. omega arith)) free refl c.pens)),
        inl (hit, refl, refl),
      ))
      (λ miss. (p, keeps, tt, subst (λ b. Core l traced w holds (set words pen_at (either b 1 r)) homes (set all n p)) (sym (ne_eqb r 0 miss)) (idle l traced w holds words homes all pen_at n p at c), inr (taken-by r c.writer c.pens.flag miss, refl, refl))))

  pub read_number_keeps : (slots id : ℕ) (me : Me (Slot T) (View T H W)) → me.0.kind ≡ Member → me.0.part.pen ≡ Taken → Allows (IsKept l traced w begin holds) slots id me number_at (λ x. x) (read_number_records (step slots number_at 0 0 none) me)
  read_number_keeps slots id me kind has = let v = me.0 in let n = v.number in let p = v.part in member_steps l traced w begin holds slots id number_at (λ x. x) v me.1
      (λ r s ds. (s ≡ record p { pen = Read r }) × (ds ≡ me.1)) (read_number_records (step slots number_at 0 0 none) me) kind
      (λ r s ds t. idle-penned p s v.child (Read r) t.0)
      (λ r s ds world t. λ i. (with_part v (t.0 i), t.1 i))
      (λ words homes all c at small. let r : ℕ = get_or words number_at 0 in let len = c.sizes.words_wide in let q : Part T H = record p { pen = Read r } in let words' = set words number_at r in
      let old : PenFits (length c.log) r c.writer n Taken = subst (PenFits (length c.log) r c.writer n) has (c.pens.pens n p at) in let same : get_or words' number_at 0 ≡ r = get_or-set_same words number_at r 0 (omega arith) in (
        q,
        keeps,
        tt,
        with_pen words homes all n number_at r p (Read r) c.writer (omega arith) (omega arith) at c
            (pens-own traced (length c.log) words c.writer all n p q at words' (other words number_at pen_at r (λ z. omega arith)) old.0 (refl, same ∙ old.1, sym same) c.pens),
        (refl, refl),
      ))

  pub write_number_keeps : (slots id k x : ℕ) (me : Me (Slot T) (View T H W)) → me.0.kind ≡ Member → me.0.part.pen ≡ Made k → x ≡ k + 1 → Allows (IsKept l traced w begin holds) slots id me number_at (λ _. x) (λ _. write_number_records (step slots number_at x 0 none) me x)
  write_number_keeps slots id k x me kind has next = let v = me.0 in let n = v.number in let p = v.part in let q : Part T H = record p { pen = Written } in member_steps l traced w begin holds slots id number_at (λ _. x) v me.1
      (λ r s ds. (s ≡ q) × (ds ≡ me.1)) (λ _. write_number_records (step slots number_at x 0 none) me x) kind
      (λ r s ds t. idle-penned p s v.child Written t.0)
      (λ r s ds world t. λ i. (with_part v (t.0 i), t.1 i))
      (λ words homes all c at small. let len = c.sizes.words_wide in let words' = set words number_at x in
      let old : PenFits (length c.log) (get_or words number_at 0) c.writer n (Made k) = subst (PenFits (length c.log) (get_or words number_at 0) c.writer n) has (c.pens.pens n p at) in let same : get_or words' number_at 0 ≡ x = get_or-set_same words number_at x 0 (omega arith) in (
        q,
        keeps,
        tt,
        with_pen words homes all n number_at x p Written c.writer (omega arith) (omega arith) at c
            (pens-own traced (length c.log) words c.writer all n p q at words' (other words number_at pen_at x (λ z. omega arith)) old.0 (refl, same ∙ (next ∙ sym old.1)) c.pens),
        (refl, refl),
      ))

  pub give_pen_keeps : (slots id : ℕ) (me : Me (Slot T) (View T H W)) → me.0.kind ≡ Member → MayGivePen me.0.part.pen → Allows (IsKept l traced w begin holds) slots id me pen_at (λ _. 0) (give_pen_records (step slots pen_at 0 0 none) me)
  give_pen_keeps slots id me kind may = let v = me.0 in let n = v.number in let p = v.part in let q : Part T H = record p { pen = No } in member_steps l traced w begin holds slots id pen_at (λ _. 0) v me.1
      (λ r s ds. (r ≡ 1) × (s ≡ q) × (ds ≡ me.1)) (give_pen_records (step slots pen_at 0 0 none) me) kind
      (λ r s ds t. idle-penned p s v.child No t.1)
      (λ r s ds world t. (t.0, λ i. (with_part v (t.1 i), t.2 i)))
      (λ words homes all c at small. let r : ℕ = get_or words pen_at 0 in let len = c.sizes.words_wide in let words' = set words pen_at 0 in
      let old = may-give (length c.log) (get_or words number_at 0) n c.writer p.pen may (c.pens.pens n p at) in
      let one : r ≡ 1 = ⊎_elim (λ (t : (r ≡ 0) × (c.writer ≡ none)). absurd (some-ne-none n (sym old.0 ∙ t.1))) (λ (t : (r ≡ 1) × ((k : ℕ) × (c.writer ≡ some k))). t.0) c.pens.flag in (
        q,
        keeps,
        tt,
        with_pen words homes all n pen_at 0 p No none (omega arith) (omega arith) at c
            (pens-give traced (length c.log) words c.writer all n p q at words' (get_or-set_same words pen_at 0 0 (omega arith)) (other words pen_at number_at 0 (λ z. omega arith)) may refl c.pens),
        (one, refl, refl),
      ))

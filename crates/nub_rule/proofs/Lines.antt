-- Lines and ready words: what keeps them, and how steps change them.
use Rattle.std.proofs.Common.{Bool, true, false, cond, ◌≡◌, ◌≢◌, ℕ, eqb, ◌<◌, ◌≤◌, ◌⊎◌, List, [], ◌∷◌, ◌++◌, length, get_or, set, refl, sym, ap, ◌∙◌, subst, inl, inr, ⊎_elim, arith, length-set, Some, None, eq-eqb, ne_eqb}
use Rattle.std.specs.Prelude.{Option as Opt}
use mathlib.Core.Logic.{dite}
use mathlib.Core.Option.{some}
use native.Mathlib.Decide.{ℕ_discrete}
use lib.ListN.{get_elem?}
use Rattle.larch_actions.specs.Sets.{mem, without}
use Rattle.larch_actions.proofs.Sets.{mem-here, mem-else, mem-last, mem-snoc, mem-gone, mem-without}
use Rattle.nub_rule.specs.declared.view.Part.{Part}
use Rattle.nub_rule.specs.declared.view.Stand.{Stand}
use Rattle.nub_rule.specs.Items.{Distinct, Stands, Lines}
use Rattle.nub_rule.specs.Parts.{stands_at, IsFound}
use Rattle.nub_rule.specs.Places.{most_threads, ready_at}
use Rattle.nub_rule.specs.Plays.{less}
use Rattle.nub_rule.proofs.Each.{at_within, each-set}
use Rattle.nub_rule.proofs.Frames.{SameReady}

pub some_none : {A : Type 0} (o : Opt A) (x : A) → o ≡ None → o ≡ Some x → ⊥
some_none o x e f = cc

pub not_true : (b : Bool) → (b ≡ true → ⊥) → b ≡ false
not_true true h = absurd (h refl)
not_true false h = refl

pub false_true : false ≡ true → ⊥
false_true e = cc

pub both_ways : {A : Type 0} (b : Bool) → b ≡ true → b ≡ false → A
both_ways b e f = absurd (false_true (sym f ∙ e))

pub same_object : (o k : ℕ) → Some o ≡ Some k → o ≡ k
same_object o k e = cc

pub no_object : (k : ℕ) → None ≡ Some k → ⊥
no_object k e = cc

pub stand_none : (st : Opt Stand) (o : ℕ) → st ≡ None → stands_at st o ≡ true → ⊥
stand_none st o e f = false_true (sym (ap (λ s. stands_at s o) e) ∙ f)

pub eqb_is : (i j : ℕ) → eqb i j ≡ true → i ≡ j
eqb_is i j e = dite (ℕ_discrete i j) (λ z. z) (λ ne. both_ways (eqb i j) e (ne_eqb i j ne))

-- a stand at an object
pub stand_some : (st : Opt Stand) (o : ℕ) → stands_at st o ≡ true → (s : Stand) × (st ≡ Some s) × (s.at ≡ o)
stand_some None o e = absurd (false_true e)
stand_some (Some s) o e = (s, refl, eqb_is s.at o e)

pub stand_same : (st : Opt Stand) (o k : ℕ) → stands_at st o ≡ true → stands_at st k ≡ true → o ≡ k
stand_same None o k e f = absurd (false_true e)
stand_same (Some s) o k e f = sym (eqb_is s.at o e) ∙ eqb_is s.at k f

pub stand_at : (st : Opt Stand) (s : Stand) (o : ℕ) → st ≡ Some s → s.at ≡ o → stands_at st o ≡ true
stand_at st s o e f = ap (λ z. stands_at z o) e ∙ eq-eqb s.at o f

pub distinct-snoc : (xs : List ℕ) (n : ℕ) → mem n xs ≡ false → Distinct xs → Distinct (xs ++ n ∷ [])
distinct-snoc [] n out d = (refl, tt)
distinct-snoc (x ∷ xs) n out d = dite (ℕ_discrete x n)
    (λ e. both_ways (mem n (x ∷ xs)) (mem-here n x xs e) out)
    (λ ne. (mem-snoc x n xs (λ e. ne (sym e)) ∙ d.0, distinct-snoc xs n (sym (mem-else n x xs ne) ∙ out) d.1))

without-here : (t x : ℕ) (xs : List ℕ) → x ≡ t → without t (x ∷ xs) ≡ without t xs
without-here t x xs e = ap (λ b. cond b (without t xs) (x ∷ without t xs)) (eq-eqb x t e)

without-else : (t x : ℕ) (xs : List ℕ) → x ≢ t → without t (x ∷ xs) ≡ x ∷ without t xs
without-else t x xs ne = ap (λ b. cond b (without t xs) (x ∷ without t xs)) (ne_eqb x t ne)

pub distinct-without : (t : ℕ) (xs : List ℕ) → Distinct xs → Distinct (without t xs)
distinct-without t [] d = tt
distinct-without t (x ∷ xs) d = dite (ℕ_discrete x t)
    (λ e. subst Distinct (sym (without-here t x xs e)) (distinct-without t xs d.1))
    (λ ne. subst Distinct (sym (without-else t x xs ne)) (mem-without x t xs ne ∙ d.0, distinct-without t xs d.1))

pub without-append : (t : ℕ) (xs ys : List ℕ) → without t (xs ++ ys) ≡ without t xs ++ without t ys
without-append t [] ys = refl
without-append t (x ∷ xs) ys = dite (ℕ_discrete x t)
    (λ e. without-here t x (xs ++ ys) e ∙ (without-append t xs ys ∙ ap (λ l. l ++ without t ys) (sym (without-here t x xs e))))
    (λ ne. without-else t x (xs ++ ys) ne ∙ (ap (λ l. x ∷ l) (without-append t xs ys) ∙ ap (λ l. l ++ without t ys) (sym (without-else t x xs ne))))

pub without-absent : (t : ℕ) (xs : List ℕ) → mem t xs ≡ false → without t xs ≡ xs
without-absent t [] out = refl
without-absent t (x ∷ xs) out = dite (ℕ_discrete x t)
    (λ e. both_ways (mem t (x ∷ xs)) (mem-here t x xs e) out)
    (λ ne. without-else t x xs ne ∙ ap (λ l. x ∷ l) (without-absent t xs (sym (mem-else t x xs ne) ∙ out)))

pub less-without : (t : ℕ) (xs : List ℕ) → Distinct xs → less t xs ≡ without t xs
less-without t [] d = refl
less-without t (x ∷ xs) d = dite (ℕ_discrete x t)
    (λ e. ap (λ b. cond b xs (x ∷ less t xs)) (eq-eqb x t e) ∙ (sym (without-absent t xs (ap (λ (z : ℕ). mem z xs) (sym e) ∙ d.0)) ∙ sym (without-here t x xs e)))
    (λ ne. ap (λ b. cond b xs (x ∷ less t xs)) (ne_eqb x t ne) ∙ (ap (λ l. x ∷ l) (less-without t xs d.1) ∙ sym (without-else t x xs ne)))

pub mem-append : (t : ℕ) (xs ys : List ℕ) → mem t xs ≡ true → mem t (xs ++ ys) ≡ true
mem-append t [] ys e = absurd (false_true e)
mem-append t (x ∷ xs) ys e = dite (ℕ_discrete x t)
    (λ z. mem-here t x (xs ++ ys) z)
    (λ ne. mem-else t x (xs ++ ys) ne ∙ mem-append t xs ys (sym (mem-else t x xs ne) ∙ e))

pub mem-tail_of : (t : ℕ) (xs ys : List ℕ) → mem t ys ≡ true → mem t (xs ++ ys) ≡ true
mem-tail_of t [] ys e = e
mem-tail_of t (x ∷ xs) ys e = dite (ℕ_discrete x t)
    (λ z. mem-here t x (xs ++ ys) z)
    (λ ne. mem-else t x (xs ++ ys) ne ∙ mem-tail_of t xs ys e)

-- in distinct halves nobody is in both
pub distinct-apart : (t : ℕ) (xs ys : List ℕ) → Distinct (xs ++ ys) → mem t xs ≡ true → mem t ys ≡ false
distinct-apart t [] ys d e = absurd (false_true e)
distinct-apart t (x ∷ xs) ys d e = dite (ℕ_discrete x t)
    (λ z. not_true (mem t ys) (λ there. both_ways (mem x (xs ++ ys)) (ap (λ (k : ℕ). mem k (xs ++ ys)) z ∙ mem-tail_of t xs ys there) d.0))
    (λ ne. distinct-apart t xs ys d.1 (sym (mem-else t x xs ne) ∙ e))

pub distinct-tail_of : (xs ys : List ℕ) → Distinct (xs ++ ys) → Distinct ys
distinct-tail_of [] ys d = d
distinct-tail_of (x ∷ xs) ys d = distinct-tail_of xs ys d.1

module _ {T H : Type 0} (line line' : ℕ → List ℕ) (words words' : List ℕ) where
  -- the same lines and the same ready word
  pub stands-same : (k : ℕ) (r r' : Part T H) → r'.stand ≡ r.stand → ((o : ℕ) → mem k (line' o) ≡ mem k (line o)) → get_or words' (ready_at k) 0 ≡ get_or words (ready_at k) 0 → Stands words line k r → Stands words' line' k r'
  stands-same k r r' e em z s = record {
    flag = subst (λ (x : ℕ). (x ≡ 0) ⊎ (x ≡ 1)) (sym z) s.flag;
    lined = λ o there. let u = s.lined o (sym (em o) ∙ there) in (ap (λ st. stands_at st o) e ∙ u.0, z ∙ u.1);
    ready = λ one. let u = s.ready (sym z ∙ one) in (u.0, e ∙ u.1);
    kept = λ st is. ⊎_elim (λ (u : mem k (line st.at) ≡ true). inl (em st.at ∙ u)) (λ (u : get_or words (ready_at k) 0 ≡ 1). inr (z ∙ u)) (s.kept st (sym e ∙ is));
    found = λ st is f. z ∙ s.found st (sym e ∙ is) f;
  }

  module _ (all : List (Part T H)) (n : ℕ) (p q : Part T H) (at : get_elem? all n ≡ some p) (few : length all ≤ most_threads) where
    -- only the thread n's own stand, place and ready word change
    pub lines-moved : ((k : ℕ) → k < most_threads → k ≢ n → get_or words' (ready_at k) 0 ≡ get_or words (ready_at k) 0) → ((k o : ℕ) → k ≢ n → mem k (line' o) ≡ mem k (line o)) → ((o : ℕ) → Distinct (line' o)) → Stands words' line' n q → Lines line words all → Lines line' words' (set all n q)
    lines-moved ws em distinct own h = record {
      distinct = distinct;
      people = λ o t there. subst (λ (z : ℕ). t < z) (sym (length-set all n q)) (dite (ℕ_discrete t n) (λ e. subst (λ (z : ℕ). z < length all) (sym e) (at_within all n p at)) (λ ne. h.people o t (sym (em t o ne) ∙ there)));
      stands = each-set (Stands words line) (Stands words' line') all n q own (λ k r ne at' s. stands-same k r r refl (λ o. em k o ne) (ws k (let z = at_within all k r at' in omega arith) ne) s) h.stands;
    }

    -- who stands nowhere is in no line and isn't ready
    pub nowhere : p.stand ≡ None → Lines line words all → ((o : ℕ) → mem n (line o) ≡ false) × (get_or words (ready_at n) 0 ≡ 0)
    nowhere out h = let s = h.stands n p at in (
      (λ o. not_true (mem n (line o)) (λ there. stand_none p.stand o out (s.lined o there).0)),
      ⊎_elim (λ (z : get_or words (ready_at n) 0 ≡ 0). z) (λ (z : get_or words (ready_at n) 0 ≡ 1). let u = s.ready z in absurd (some_none p.stand u.0 out u.1)) s.flag,
    )

    -- the thread n is put last into the line of o
    pub lines-push : (o : ℕ) (s : Stand) → SameReady words words' → line' o ≡ line o ++ n ∷ [] → ((k : ℕ) → k ≢ o → line' k ≡ line k) → p.stand ≡ None → q.stand ≡ Some s → s.at ≡ o → (IsFound s.stage → ⊥) → Lines line words all → Lines line' words' (set all n q)
    lines-push o s ws is elsewhere out now there fresh h =
        let gone = nowhere out h in
        let low : n < most_threads = (let z = at_within all n p at in omega arith) in
        let zero : get_or words' (ready_at n) 0 ≡ 0 = ws n low ∙ gone.1 in
        let same_stand : (st : Stand) → q.stand ≡ Some st → s ≡ st = λ st e. (let z : Some s ≡ Some st = sym now ∙ e in cc) in
        lines-moved (λ k lo ne. ws k lo)
        (λ k i ne. dite (ℕ_discrete i o) (λ e. (λ j. mem k (line' (e j))) ∙ (ap (mem k) is ∙ (mem-snoc k n (line o) (λ z. ne (sym z)) ∙ λ j. mem k (line (sym e j))))) (λ other. ap (mem k) (elsewhere i other)))
        (λ i. dite (ℕ_discrete i o) (λ e. subst (λ (z : ℕ). Distinct (line' z)) (sym e) (subst Distinct (sym is) (distinct-snoc (line o) n (gone.0 o) (h.distinct o)))) (λ other. subst Distinct (sym (elsewhere i other)) (h.distinct i)))
        record {
          flag = inl zero;
          lined = λ i here. (dite (ℕ_discrete i o) (λ e. stand_at q.stand s i now (there ∙ sym e)) (λ other. both_ways (mem n (line i)) (ap (mem n) (sym (elsewhere i other)) ∙ here) (gone.0 i)), zero);
          ready = λ one. absurd (let z = sym zero ∙ one in omega arith);
          kept = λ st e. inl (let z = same_stand st e in (λ j. mem n (line' (sym z j).at)) ∙ ((λ j. mem n (line' (there j))) ∙ (ap (mem n) is ∙ mem-last n (line o))));
          found = λ st e f. absurd (fresh (subst (λ (z : Stand). IsFound z.stage) (sym (same_stand st e)) f));
        } h

    -- the thread n leaves the line of o, in which it was
    pub lines-leave : (o : ℕ) → SameReady words words' → line' o ≡ without n (line o) → ((k : ℕ) → k ≢ o → line' k ≡ line k) → mem n (line o) ≡ true → q.stand ≡ None → Lines line words all → Lines line' words' (set all n q)
    lines-leave o ws is elsewhere there now h =
        let low : n < most_threads = (let z = at_within all n p at in omega arith) in
        let old = (h.stands n p at).lined o there in
        let zero : get_or words' (ready_at n) 0 ≡ 0 = ws n low ∙ old.1 in
        lines-moved (λ k lo ne. ws k lo)
        (λ k i ne. dite (ℕ_discrete i o) (λ e. (λ j. mem k (line' (e j))) ∙ (ap (mem k) is ∙ (mem-without k n (line o) ne ∙ λ j. mem k (line (sym e j))))) (λ other. ap (mem k) (elsewhere i other)))
        (λ i. dite (ℕ_discrete i o) (λ e. subst (λ (z : ℕ). Distinct (line' z)) (sym e) (subst Distinct (sym is) (distinct-without n (line o) (h.distinct o)))) (λ other. subst Distinct (sym (elsewhere i other)) (h.distinct i)))
        record {
          flag = inl zero;
          lined = λ i here. absurd (dite (ℕ_discrete i o)
              (λ e. false_true (sym (mem-gone n (line o)) ∙ (ap (mem n) (sym is) ∙ ((λ j. mem n (line' (sym e j))) ∙ here))))
              (λ other. other (stand_same p.stand i o ((h.stands n p at).lined i (ap (mem n) (sym (elsewhere i other)) ∙ here)).0 old.0)));
          ready = λ one. absurd (let z = sym zero ∙ one in omega arith);
          kept = λ st e. absurd (some_none q.stand st now e);
          found = λ st e f. absurd (some_none q.stand st now e);
        } h

    -- the thread n, which is ready, clears its ready word
    pub lines-unready : ((k : ℕ) → k < most_threads → k ≢ n → get_or words' (ready_at k) 0 ≡ get_or words (ready_at k) 0) → ((o : ℕ) → line' o ≡ line o) → get_or words (ready_at n) 0 ≡ 1 → get_or words' (ready_at n) 0 ≡ 0 → q.stand ≡ None → Lines line words all → Lines line' words' (set all n q)
    lines-unready ws el one zero now h = lines-moved ws (λ k i ne. ap (mem k) (el i)) (λ i. subst Distinct (sym (el i)) (h.distinct i))
        record {
          flag = inl zero;
          lined = λ i here. absurd (let z = ((h.stands n p at).lined i (ap (mem n) (sym (el i)) ∙ here)).1 in omega arith);
          ready = λ is. absurd (omega arith);
          kept = λ st e. absurd (some_none q.stand st now e);
          found = λ st e f. absurd (some_none q.stand st now e);
        } h

    -- the thread n stands where it stood, at another stage
    pub lines-stage : (s r : Stand) → SameReady words words' → ((o : ℕ) → line' o ≡ line o) → p.stand ≡ Some s → q.stand ≡ Some r → r.at ≡ s.at → (IsFound r.stage → get_or words (ready_at n) 0 ≡ 1) → Lines line words all → Lines line' words' (set all n q)
    lines-stage s r ws el was now there found h =
        let low : n < most_threads = (let z = at_within all n p at in omega arith) in
        let z = ws n low in
        let t = h.stands n p at in
        let same_stand : (st : Stand) → q.stand ≡ Some st → r ≡ st = λ st e. (let y : Some r ≡ Some st = sym now ∙ e in cc) in
        lines-moved (λ k lo ne. ws k lo) (λ k i ne. ap (mem k) (el i)) (λ i. subst Distinct (sym (el i)) (h.distinct i))
        record {
          flag = subst (λ (x : ℕ). (x ≡ 0) ⊎ (x ≡ 1)) (sym z) t.flag;
          lined = λ i here. let u = t.lined i (ap (mem n) (sym (el i)) ∙ here) in (let v = stand_some p.stand i u.0 in stand_at q.stand r i now (let y : Some s ≡ Some v.0 = sym was ∙ v.1 in let x : s ≡ v.0 = cc in there ∙ (ap (λ (k : Stand). k.at) x ∙ v.2)), z ∙ u.1);
          ready = λ one. (r, now);
          kept = λ st e. ⊎_elim (λ (u : mem n (line s.at) ≡ true). inl (let y = same_stand st e in ap (mem n) (el st.at) ∙ ((λ j. mem n (line (sym y j).at)) ∙ ((λ j. mem n (line (there j))) ∙ u)))) (λ (u : get_or words (ready_at n) 0 ≡ 1). inr (z ∙ u)) (t.kept s was);
          found = λ st e f. z ∙ found (subst (λ (x : Stand). IsFound x.stage) (sym (same_stand st e)) f);
        } h

    -- nothing of this has changed
    pub lines-same : SameReady words words' → ((o : ℕ) → line' o ≡ line o) → q.stand ≡ p.stand → Lines line words all → Lines line' words' (set all n q)
    lines-same ws el same h = lines-moved (λ k lo ne. ws k lo) (λ k i ne. ap (mem k) (el i)) (λ i. subst Distinct (sym (el i)) (h.distinct i))
        (stands-same n p q same (λ i. ap (mem n) (el i)) (ws n (let z = at_within all n p at in omega arith)) (h.stands n p at)) h

    -- the thread t leaves the line of o and is made ready
    pub lines-ready : (t o : ℕ) → ((k : ℕ) → k < most_threads → k ≢ t → get_or words' (ready_at k) 0 ≡ get_or words (ready_at k) 0) → get_or words' (ready_at t) 0 ≡ 1 → line' o ≡ without t (line o) → ((k : ℕ) → k ≢ o → line' k ≡ line k) → mem t (line o) ≡ true → q.stand ≡ p.stand
        → Lines line words all → Lines line' words' (set all n q)
    lines-ready t o ws one is elsewhere there same h =
        let fewer : (k i : ℕ) → k ≢ t → mem k (line' i) ≡ mem k (line i) = λ k i ne. dite (ℕ_discrete i o) (λ e. (λ j. mem k (line' (e j))) ∙ (ap (mem k) is ∙ (mem-without k t (line o) ne ∙ λ j. mem k (line (sym e j))))) (λ other. ap (mem k) (elsewhere i other)) in
        let moved : (k : ℕ) (r r' : Part T H) → get_elem? all k ≡ some r → r'.stand ≡ r.stand → Stands words line k r → Stands words' line' k r' = λ k r r' at' e s. dite (ℕ_discrete k t)
        (λ z.
        let lined : mem k (line o) ≡ true = ap (λ (i : ℕ). mem i (line o)) z ∙ there in
        let old = s.lined o lined in
        let now : get_or words' (ready_at k) 0 ≡ 1 = ap (λ (i : ℕ). get_or words' (ready_at i) 0) z ∙ one in
        let st = stand_some r.stand o old.0 in record {
          flag = inr now;
          lined = λ i here. absurd (dite (ℕ_discrete i o)
              (λ y. false_true (sym (mem-gone t (line o)) ∙ (ap (mem t) (sym is) ∙ ((λ j. mem (sym z j) (line' (sym y j))) ∙ here))))
              (λ other. other (stand_same r.stand i o (s.lined i (ap (mem k) (sym (elsewhere i other)) ∙ here)).0 old.0)));
          ready = λ _. (st.0, e ∙ st.1);
          kept = λ x y. inr now;
          found = λ x y f. now;
        })
        (λ ne. stands-same k r r' e (λ i. fewer k i ne) (ws k (let y = at_within all k r at' in omega arith) ne) s) in record {
          distinct = λ i. dite (ℕ_discrete i o) (λ e. subst (λ (z : ℕ). Distinct (line' z)) (sym e) (subst Distinct (sym is) (distinct-without t (line o) (h.distinct o)))) (λ other. subst Distinct (sym (elsewhere i other)) (h.distinct i));
          people = λ i k here. subst (λ (z : ℕ). k < z) (sym (length-set all n q)) (dite (ℕ_discrete k t) (λ e. subst (λ (z : ℕ). z < length all) (sym e) (h.people o t there)) (λ ne. h.people i k (sym (fewer k i ne) ∙ here)));
          stands = each-set (Stands words line) (Stands words' line') all n q (moved n p q at same (h.stands n p at)) (λ k r ne at' s. moved k r r at' refl s) h.stands;
        }

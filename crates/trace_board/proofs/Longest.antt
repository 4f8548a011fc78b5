-- The longest hold of a mutex is one of its holds, and none is longer.
use Rattle.std.proofs.Common.{◌≡◌, ◌≢◌, ℕ, ◌-◌, ◌<◌, ◌≤◌, ◌⊎◌, inl, inr, Bool, true, false, cond, eqb, List, [], ◌∷◌, ◌++◌, length, length-append, refl, ap, sym, subst, ◌∙◌, Some, None, MatchOption, eq-eqb, ne_eqb, arith}
use Rattle.std.specs.Prelude.{nat_lt}
use Rattle.std.specs.List.{AllByRecursion}
use mathlib.Core.Logic.{dite}
use native.Mathlib.Decide.{ℕ_discrete}
use Rattle.std.specs.declared.option.Option.{Option}
use Rattle.std.proofs.lemmas.Bool.{cond_both}
use Rattle.std.proofs.lemmas.Bool.Decides.{nat_tests}
use Rattle.larch_actions.specs.declared.event.Event.{Event}
use Rattle.trace_board.specs.declared.history.Origin.{Origin}
use Rattle.trace_board.specs.declared.history.Change.{Change}
use Rattle.trace_board.specs.declared.history.Change.TheVariants.{Begins, Ends, Stays}
use Rattle.trace_board.specs.declared.holds.Hold.{Hold}
use Rattle.trace_board.specs.declared.rows.Bar.TheVariants.{Mutex}
use Rattle.trace_board.specs.Marks.{marks}
use Rattle.trace_board.specs.History.{changed, origin_of}
use Rattle.trace_board.specs.Holds.{held_for, hold_to, longer, lengthened}
use Rattle.trace_board.specs.Tracked.{tracked_since}
use Rattle.trace_board.specs.Laws.{IsLeft, IsSince, IsGivenBack, IsHold, HoldsAreLongest}
use Rattle.trace_board.proofs.Holding.{Since, held_past}

-- one of these holds, and none of them is longer
abbrev Best : (Hold → Type 0) → Option Hold → Type 0
Best P x = MatchOption x ((h : Hold) → P h → ⊥) (λ h. P h × ((j : Hold) → P j → held_for j ≤ held_for h))

best_same : (P R : Hold → Type 0) (x : Option Hold) → ((h : Hold) → P h → R h) → ((h : Hold) → R h → P h) → Best P x → Best R x
best_same P R None to from b = λ h r. b h (from h r)
best_same P R (Some a) to from b = (to a b.0, λ j r. b.1 j (from j r))

module _ (P Q R : Hold → Type 0) (to : (h : Hold) → P h ⊎ Q h → R h) (from : (h : Hold) → R h → P h ⊎ Q h) where
  first_best : (a b : Hold) → P a → ((j : Hold) → P j → held_for j ≤ held_for a) → ((j : Hold) → Q j → held_for j ≤ held_for b) → held_for b ≤ held_for a → Best R (Some a)
  first_best a b p most other le = (to a (inl p), λ j r. at j (from j r))
    where
      at : (j : Hold) → P j ⊎ Q j → held_for j ≤ held_for a
      at j (inl h) = most j h
      at j (inr h) = omega (arith, other j h, le)

  second_best : (a b : Hold) → Q b → ((j : Hold) → P j → held_for j ≤ held_for a) → ((j : Hold) → Q j → held_for j ≤ held_for b) → held_for a < held_for b → Best R (Some b)
  second_best a b q other most lt = (to b (inr q), λ j r. at j (from j r))
    where
      at : (j : Hold) → P j ⊎ Q j → held_for j ≤ held_for b
      at j (inl h) = omega (arith, other j h, lt)
      at j (inr h) = most j h

  best_longer : (x y : Option Hold) → Best P x → Best Q y → Best R (longer x y)
  best_longer None None b c = λ h r. at h (from h r)
    where
      at : (h : Hold) → P h ⊎ Q h → ⊥
      at h (inl p) = b h p
      at h (inr q) = c h q
  best_longer None (Some d) b c = (to d (inr c.0), λ j r. at j (from j r))
    where
      at : (j : Hold) → P j ⊎ Q j → held_for j ≤ held_for d
      at j (inl p) = absurd (b j p)
      at j (inr q) = c.1 j q
  best_longer (Some a) None b c = (to a (inl b.0), λ j r. at j (from j r))
    where
      at : (j : Hold) → P j ⊎ Q j → held_for j ≤ held_for a
      at j (inl p) = b.1 j p
      at j (inr q) = absurd (c j q)
  best_longer (Some a) (Some d) b c =
      cond_both (nat_lt (held_for a) (held_for d)) (Some d) (Some a) (Best R)
      (λ e. second_best a d c.0 b.1 c.1 (is_less (held_for a) (held_for d) e))
      (λ e. first_best a d b.0 b.1 c.1 (is_not_less (held_for a) (held_for d) e))
    where
      is_less : (i k : ℕ) → nat_lt i k ≡ true → i < k
      is_less i k e = grind (arith, nat_tests)

      is_not_less : (i k : ℕ) → nat_lt i k ≡ false → k ≤ i
      is_not_less i k e = grind (arith, nat_tests)

some_same : (o p : Origin) → Some o ≡ Some p → o ≡ p
some_same o p e = cc

-- what an event leaves is as before
turn_other : (m : ℕ) (o : Origin) (f : ℕ → Option Origin) (t : Change) → t ≢ Begins m → t ≢ Ends m → changed t o f m ≡ f m
turn_other m o f (Begins k) a b = ap (λ i. cond i (Some o) (f m)) (ne_eqb m k (λ e. a (ap Begins (sym e))))
turn_other m o f (Ends k) a b = ap (λ i. cond i None (f m)) (ne_eqb m k (λ e. b (ap Ends (sym e))))
turn_other m o f Stays a b = refl

-- a hold that is under way is kept, from its place
found : (m : ℕ) (later earlier : List Event) (taking : Event) → (marks taking).mutex ≡ Begins m → AllByRecursion (IsLeft (Mutex m)) later → (tracked_since (later ++ taking ∷ earlier)).held m ≡ Some (origin_of (length earlier) taking)
found m [] earlier taking takes kept =
    ap (λ t. changed t (origin_of (length earlier) taking) (tracked_since earlier).held m) takes ∙ ap (λ i. cond i (Some (origin_of (length earlier) taking)) ((tracked_since earlier).held m)) (eq-eqb m m refl)
found m (x ∷ later) earlier taking takes kept =
    turn_other m (origin_of (length (later ++ taking ∷ earlier)) x) (tracked_since (later ++ taking ∷ earlier)).held (marks x).mutex kept.0.0 kept.0.1 ∙ found m later earlier taking takes kept.1

place_of : (m : ℕ) (o p : Origin) (past : List Event) → (tracked_since past).held m ≡ Some p → IsSince (Mutex m) o past → o.place ≡ p.place
place_of m o p past is s =
    let at = sym is ∙ ap (λ l. (tracked_since l).held m) s.split ∙ found m s.later s.earlier s.taking s.takes s.kept in
    s.place ∙ sym (ap (λ (q : Origin). q.place) (some_same p (origin_of (length s.earlier) s.taking) at))

none_of : (m : ℕ) (o : Origin) (past : List Event) → (tracked_since past).held m ≡ None → IsSince (Mutex m) o past → ⊥
none_of m o past is s =
    let bad : None ≡ Some (origin_of (length s.earlier) s.taking) = sym is ∙ ap (λ l. (tracked_since l).held m) s.split ∙ found m s.later s.earlier s.taking s.takes s.kept in
    cc

-- the hold that is under way, up to this event
abbrev IsUnderWay : Bool → ℕ → ℕ → List Event → Hold → Type 0
IsUnderWay ended n m past h = (h.ended ≡ ended) × IsSince (Mutex m) h.since past × (h.last ≡ n)

under_way : (ended : Bool) (n m : ℕ) (past : List Event) (x : Option Origin) → (tracked_since past).held m ≡ x → Since (Mutex m) past x → Best (IsUnderWay ended n m past) (hold_to ended n x)
under_way ended n m past None is s = λ h u. none_of m h.since past is u.1
under_way ended n m past (Some o) is s = ((refl, s, refl), λ j u. omega (arith, place_of m j.since o past is u.1, u.2))

-- the latest of the events that gave back
abbrev IsBack : ℕ → List Event → Hold → Type 0
IsBack m past h = (h.ended ≡ true) × IsGivenBack m h past

back_later : (m : ℕ) (e : Event) (past : List Event) (h : Hold) → IsBack m past h → IsBack m (e ∷ past) h
back_later m e past h b = (
  b.0,
  record {
    later = e ∷ b.1.later;
    giving = b.1.giving;
    earlier = b.1.earlier;
    split = ap (λ l. e ∷ l) b.1.split;
    gives = b.1.gives;
    since = b.1.since;
    last = b.1.last;
  },
)

back_now : (m : ℕ) (e : Event) (past : List Event) (h : Hold) → (marks e).mutex ≡ Ends m → IsUnderWay true (length past) m past h → IsBack m (e ∷ past) h
back_now m e past h gives u = (u.0, record { later = []; giving = e; earlier = past; split = refl; gives = gives; since = u.1; last = u.2 })

head_same : (x y : Event) (xs ys : List Event) → x ∷ xs ≡ y ∷ ys → x ≡ y
head_same x y xs ys e = cc

tail_same : (x y : Event) (xs ys : List Event) → x ∷ xs ≡ y ∷ ys → xs ≡ ys
tail_same x y xs ys e = cc

-- a hold that was given back was so by the latest event or before
back_from : (m : ℕ) (e : Event) (past : List Event) (h : Hold) → IsBack m (e ∷ past) h → IsBack m past h ⊎ (((marks e).mutex ≡ Ends m) × IsUnderWay true (length past) m past h)
back_from m e past h (ended, b) = at b.later b.split
  where
    at : (later : List Event) → e ∷ past ≡ later ++ b.giving ∷ b.earlier → IsBack m past h ⊎ (((marks e).mutex ≡ Ends m) × IsUnderWay true (length past) m past h)
    at [] s =
        let same = tail_same e b.giving past b.earlier s in
        inr (ap (λ x. (marks x).mutex) (head_same e b.giving past b.earlier s) ∙ b.gives, (ended, subst (IsSince (Mutex m) h.since) (sym same) b.since, b.last ∙ ap length (sym same)))
    at (x ∷ later) s =
        inl (ended, record { later = later; giving = b.giving; earlier = b.earlier; split = tail_same e x past (later ++ b.giving ∷ b.earlier) s; gives = b.gives; since = b.since; last = b.last })

back_none : (m : ℕ) (h : Hold) → IsBack m [] h → ⊥
back_none m h (ended, b) = let counted = ap length b.split ∙ length-append b.later (b.giving ∷ b.earlier) in absurd (omega (arith, counted))

module _ (m : ℕ) (e : Event) (past : List Event) (b : Best (IsBack m past) ((tracked_since past).longest m)) where
  -- an event that doesn't give it back
  other : (marks e).mutex ≢ Ends m → Best (IsBack m (e ∷ past)) ((tracked_since past).longest m)
  other ne = best_same (IsBack m past) (IsBack m (e ∷ past)) ((tracked_since past).longest m) (back_later m e past) (λ h r. at h (back_from m e past h r)) b
    where
      at : (h : Hold) → IsBack m past h ⊎ (((marks e).mutex ≡ Ends m) × IsUnderWay true (length past) m past h) → IsBack m past h
      at h (inl i) = i
      at h (inr i) = absurd (ne i.0)

  gives : (marks e).mutex ≡ Ends m → Best (IsBack m (e ∷ past)) (longer ((tracked_since past).longest m) (hold_to true (length past) ((tracked_since past).held m)))
  gives is =
      best_longer (IsBack m past) (IsUnderWay true (length past) m past) (IsBack m (e ∷ past)) to from ((tracked_since past).longest m) (hold_to true (length past) ((tracked_since past).held m)) b
      (under_way true (length past) m past ((tracked_since past).held m) refl (held_past m past))
    where
      to : (h : Hold) → IsBack m past h ⊎ IsUnderWay true (length past) m past h → IsBack m (e ∷ past) h
      to h (inl i) = back_later m e past h i
      to h (inr i) = back_now m e past h is i

      from : (h : Hold) → IsBack m (e ∷ past) h → IsBack m past h ⊎ IsUnderWay true (length past) m past h
      from h r = at (back_from m e past h r)
        where
          at : IsBack m past h ⊎ (((marks e).mutex ≡ Ends m) × IsUnderWay true (length past) m past h) → IsBack m past h ⊎ IsUnderWay true (length past) m past h
          at (inl i) = inl i
          at (inr i) = inr i.1

  step : (t : Change) → (marks e).mutex ≡ t → Best (IsBack m (e ∷ past)) (lengthened t (length past) (tracked_since past).held (tracked_since past).longest m)
  step (Begins k) is = other (λ u. let bad : Begins k ≡ Ends m = sym is ∙ u in cc)
  step Stays is = other (λ u. let bad : Stays ≡ Ends m = sym is ∙ u in cc)
  step (Ends k) is = dite (ℕ_discrete m k)
      (λ same. at m k same (is ∙ ap Ends (sym same)))
      (λ ne. subst (λ i. Best (IsBack m (e ∷ past)) (cond i (longer ((tracked_since past).longest k) (hold_to true (length past) ((tracked_since past).held k))) ((tracked_since past).longest m))) (sym (ne_eqb m k ne)) (other (λ u. ne (ends_same k m (sym is ∙ u)))))
    where
      ends_same : (k m : ℕ) → Ends k ≡ Ends m → m ≡ k
      ends_same k m u = cc

      put_at : (k : ℕ) → m ≡ k → longer ((tracked_since past).longest m) (hold_to true (length past) ((tracked_since past).held m)) ≡ cond (eqb m k) (longer ((tracked_since past).longest k) (hold_to true (length past) ((tracked_since past).held k))) ((tracked_since past).longest m)
      put_at k same =
          ap (λ i. longer ((tracked_since past).longest i) (hold_to true (length past) ((tracked_since past).held i))) same
          ∙ sym (ap (λ i. cond i (longer ((tracked_since past).longest k) (hold_to true (length past) ((tracked_since past).held k))) ((tracked_since past).longest m)) (eq-eqb m k same))

      at : (m' k : ℕ) → m ≡ k → (marks e).mutex ≡ Ends m → Best (IsBack m (e ∷ past)) (cond (eqb m k) (longer ((tracked_since past).longest k) (hold_to true (length past) ((tracked_since past).held k))) ((tracked_since past).longest m))
      at m' k same gives_it = subst (Best (IsBack m (e ∷ past))) (put_at k same) (gives gives_it)

back_best : (m : ℕ) (past : List Event) → Best (IsBack m past) ((tracked_since past).longest m)
back_best m [] = λ h b. back_none m h b
back_best m (e ∷ past) = step m e past (back_best m past) (marks e).mutex refl

pub holds_are_longest : HoldsAreLongest
holds_are_longest = λ past n m.
    best_longer (IsBack m past) (IsUnderWay false (n - 1) m past) (λ h. IsHold n m h past) (λ h i. i) (λ h i. i) ((tracked_since past).longest m) (hold_to false (n - 1) ((tracked_since past).held m))
    (back_best m past) (under_way false (n - 1) m past ((tracked_since past).held m) refl (held_past m past))

-- How far two threads come by their lines is the same in both orders of their events.
use Rattle.std.proofs.Common.{◌≡◌, ◌≢◌, inl, inr, ℕ, zero, suc, ◌+◌, true, false, cond, List, [], ◌∷◌, take, drop, refl, ap, sym, subst, ◌∙◌, arith}
use Rattle.std.specs.Prelude.{nat_le}
use Rattle.std.proofs.lemmas.Bool.Decides.{eqb_tells}
use Rattle.larch_actions.specs.declared.event.Version.{Version}
use Rattle.larch_actions.specs.declared.event.Version.TheVariants.{One, Two}
use Rattle.larch_actions.specs.declared.event.Action.{Action}
use Rattle.larch_actions.specs.Actions.{put}
use Rattle.script_text.specs.declared.line.Line.{Line}
use Rattle.script_text.specs.declared.line.Operation.{Operation}
use Rattle.script_text.specs.declared.line.Operation.TheVariants.{Add, Until, AlertUntil}
use Rattle.script_text.specs.Table.{use_of}
use Rattle.script_text.specs.Runs.{lines_of, added_by, total}
use Rattle.script_plays.specs.declared.choice.Turn.{Turn}
use Rattle.script_plays.specs.declared.choice.Turn.TheVariants.{Stays, Next}
use Rattle.script_plays.specs.declared.choice.Choice.{Choice}
use Rattle.script_plays.specs.Choices.{MayMake, Gives, is_silent}
use Rattle.script_plays.specs.Scenes.{rest_of, sum_below, number_of, settled_over, settled, turned}
use Rattle.script_plays.proofs.Bounded.{put_here, put_other, turned-other}
use Rattle.script_plays.proofs.Owning.{Mine, MayHave, AreOwn, rest_next, silent_keeps, known}

-- what the lines that the thread u has played add to the number of the mutex m
abbrev pub added : List Line → (ℕ → ℕ) → ℕ → ℕ → ℕ
added xs played u m = total (take (played u) (lines_of u xs)) m

-- the thread t is as far in both, and of the mutexes that it has the numbers are the same
record Alike (xs : List Line) (t : ℕ) (mine : Mine) (p q : ℕ → ℕ) : Type 0 where
  here : p t ≡ q t
  sums : (m : ℕ) → mine m ≡ true → (u : ℕ) → added xs p u m ≡ added xs q u m

put_at : (f : ℕ → ℕ) (t x u : ℕ) → u ≡ t → put f t x u ≡ x
put_at f t x u is = subst (λ (i : ℕ). put f t x i ≡ x) (sym is) (put_here f t x)

pub sum_alike : (f g : ℕ → ℕ) (n : ℕ) → ((t : ℕ) → f t ≡ g t) → sum_below f n ≡ sum_below g n
sum_alike f g n all = λ i. sum_below (λ t. all t i) n

pub silent_alike : (o : Operation) (mine : Mine) (f g : ℕ → ℕ) → MayHave (use_of o) mine → ((m : ℕ) → mine m ≡ true → f m ≡ g m) → is_silent o f ≡ is_silent o g
silent_alike (Add m k) mine f g has same = refl
silent_alike (Until m c k) mine f g has same = ap (nat_le k) (same m.0 has)
silent_alike (AlertUntil m c k) mine f g has same = ap (nat_le k) (same m.0 has)
silent_alike _ mine f g has same = refl

-- lines of a thread, one of which is the first of the rest
pub total_next : (ys : List Line) (k m : ℕ) (x : Line) (rest : List Line) → drop k ys ≡ x ∷ rest → total (take (suc k) ys) m ≡ total (take k ys) m + added_by x.operation m
total_next [] zero m x rest e = absurd (cc)
total_next [] (suc k) m x rest e = absurd (cc)
total_next (y ∷ ys) zero m x rest e = let same : y ≡ x = cc in ap (λ (z : Line). added_by z.operation m + 0) same ∙ (omega arith)
total_next (y ∷ ys) (suc k) m x rest e = omega (arith, total_next ys k m x rest e)

adds_mine : (o : Operation) (mine : Mine) (m : ℕ) → MayHave (use_of o) mine → mine m ≡ false → added_by o m ≡ 0
adds_mine (Add k j) mine m has not = elim (eqb_tells k.0 m) [
  | inl p ↦ let both : true ≡ false = sym has ∙ (ap mine p.1 ∙ not) in absurd (cc)
  | inr p ↦ ap (λ b. cond b j 0) p.0
]
adds_mine _ mine m has not = refl

made_adds : (o : Operation) (c : Choice) (m : ℕ) → MayMake o c → added_by o m ≡ 0
made_adds (Add k j) c m made = absurd made
made_adds _ c m made = refl

turns_apart : (a b : Action) → (let x : Choice = record { action = a; turn = Next } in x ≡ record { action = b; turn = Stays }) → ⊥
turns_apart a b e = let turn : Next ≡ Stays = ap (λ (z : Choice). z.turn) e in cc

module _ (n : ℕ) (xs : List Line) (t : ℕ) where
  next_alike : (mine : Mine) (p q : ℕ → ℕ) → Alike xs t mine p q → Alike xs t mine (put p t (suc (p t))) (put q t (suc (q t)))
  next_alike mine p q alike = record {
    here = put_here p t (suc (p t)) ∙ (ap suc alike.here ∙ sym (put_here q t (suc (q t))));
    sums = λ m has u. elim (eqb_tells u t) [
      | inl e ↦ ap (λ k. total (take k (lines_of u xs)) m) (put_at p t (suc (p t)) u e.1 ∙ (ap suc alike.here ∙ sym (put_at q t (suc (q t)) u e.1)))
      | inr e ↦
          ap (λ k. total (take k (lines_of u xs)) m) (put_other p t (suc (p t)) u e.1)
          ∙ (alike.sums m has u ∙ sym (ap (λ k. total (take k (lines_of u xs)) m) (put_other q t (suc (q t)) u e.1)))
    ];
  }

  turned_alike : (turn : Turn) (mine : Mine) (p q : ℕ → ℕ) → Alike xs t mine p q → Alike xs t mine (turned turn t p) (turned turn t q)
  turned_alike Stays mine p q alike = alike
  turned_alike Next mine p q alike = next_alike mine p q alike

  -- where the numbers of its mutexes are the same, a thread plays the same silent lines
  over_alike : (rest : List Line) (mine : Mine) (p q : ℕ → ℕ) → AreOwn mine rest → Alike xs t mine p q → settled_over n xs t rest p t ≡ settled_over n xs t rest q t
  over_alike [] mine p q own alike = alike.here
  over_alike (x ∷ rest) mine p q own alike =
      let same = silent_alike x.operation mine (number_of n xs p) (number_of n xs q) own.0
      (λ m has. sum_alike (λ u. added xs p u m) (λ u. added xs q u m) n (alike.sums m has)) in
      elim (known (is_silent x.operation (number_of n xs p))) [
        | inl silent ↦
            let also : is_silent x.operation (number_of n xs q) ≡ true = sym same ∙ silent in
            rw (silent, also) (
            over_alike rest mine (put p t (suc (p t))) (put q t (suc (q t)))
            (subst (λ (h : Mine). AreOwn h rest) (silent_keeps x.operation (number_of n xs p) mine silent) own.1)
            (next_alike mine p q alike)
            )
        | inr not ↦
            let also : is_silent x.operation (number_of n xs q) ≡ false = sym same ∙ not in
            rw (not, also) alike.here
      ]

  -- and its silent lines add to the numbers of its mutexes alone
  over_adds : (rest : List Line) (mine : Mine) (p : ℕ → ℕ) (m : ℕ) → rest_of xs p t ≡ rest → AreOwn mine rest → mine m ≡ false → added xs (settled_over n xs t rest p) t m ≡ added xs p t m
  over_adds [] mine p m e own not = refl
  over_adds (x ∷ rest) mine p m e own not = elim (known (is_silent x.operation (number_of n xs p))) [
    | inl silent ↦
        let further = over_adds rest mine (put p t (suc (p t))) m (rest_next xs p t x rest e) (subst (λ (h : Mine). AreOwn h rest) (silent_keeps x.operation (number_of n xs p) mine silent) own.1) not in
        let one = ap (λ k. total (take k (lines_of t xs)) m) (put_here p t (suc (p t))) ∙ total_next (lines_of t xs) (p t) m x rest e in
        let none = adds_mine x.operation mine m own.0 not in
        rw silent (further ∙ (one ∙ (omega (arith, none))))
    | inr speaks ↦ rw speaks refl
  ]

  line_adds : (x : Line) (rest : List Line) (p : ℕ → ℕ) (c : Choice) (m : ℕ) → rest_of xs p t ≡ x ∷ rest → MayMake x.operation c → added xs (put p t (suc (p t))) t m ≡ added xs p t m
  line_adds x rest p c m e made =
      let none = made_adds x.operation c m made in
      let one = ap (λ k. total (take k (lines_of t xs)) m) (put_here p t (suc (p t))) ∙ total_next (lines_of t xs) (p t) m x rest e in
      one ∙ (omega (arith, none))

  next_adds : (v : Version) (rest : List Line) (p : ℕ → ℕ) (a : Action) (m : ℕ) → rest_of xs p t ≡ rest → Gives v rest (record { action = a; turn = Next }) → added xs (put p t (suc (p t))) t m ≡ added xs p t m
  next_adds One [] p a m e gives = absurd gives
  next_adds Two [] p a m e gives = absurd (turns_apart a _ gives)
  next_adds One (x ∷ rest) p a m e gives = line_adds x rest p (record { action = a; turn = Next }) m e gives
  next_adds Two (x ∷ rest) p a m e gives = line_adds x rest p (record { action = a; turn = Next }) m e gives

  pub turned_adds : (v : Version) (turn : Turn) (p : ℕ → ℕ) (a : Action) (m : ℕ) → Gives v (rest_of xs p t) (record { action = a; turn = turn }) → added xs (turned turn t p) t m ≡ added xs p t m
  turned_adds v Stays p a m gives = refl
  turned_adds v Next p a m gives = next_adds v (rest_of xs p t) p a m refl gives

-- an event of a thread changes the numbers of its own mutexes alone
module _ (n : ℕ) (xs : List Line) (v : Version) where
  pub step_adds : (t : ℕ) (turn : Turn) (p : ℕ → ℕ) (a : Action) (mine : Mine) → Gives v (rest_of xs p t) (record { action = a; turn = turn }) → AreOwn mine (rest_of xs (turned turn t p) t)
      → (m u : ℕ) → mine m ≡ false → added xs (settled n xs t (turned turn t p)) u m ≡ added xs p u m
  step_adds t turn p a mine gives own m u not = elim (eqb_tells u t) [
    | inl e ↦
        subst (λ (i : ℕ). added xs (settled n xs t (turned turn t p)) i m ≡ added xs p i m) (sym e.1)
        (over_adds n xs t (rest_of xs (turned turn t p) t) mine (turned turn t p) m refl own not ∙ turned_adds n xs t v turn p a m gives)
    | inr e ↦ ap (λ k. total (take k (lines_of u xs)) m) (turned-other n xs t turn p u e.1)
  ]

  step_alike : (t : ℕ) (turn : Turn) (mine : Mine) (p q : ℕ → ℕ) → AreOwn mine (rest_of xs (turned turn t p) t) → Alike xs t mine p q → settled n xs t (turned turn t p) t ≡ settled n xs t (turned turn t q) t
  step_alike t turn mine p q own alike =
      let moved = turned_alike n xs t turn mine p q alike in
      over_alike n xs t (rest_of xs (turned turn t p) t) mine (turned turn t p) (turned turn t q) own moved
      ∙ ap (λ k. settled_over n xs t (drop k (lines_of t xs)) (turned turn t q) t) moved.here

  -- a thread comes as far after an event of another thread, whose mutexes are others
  same_step : (t u : ℕ) (turn other : Turn) (p : ℕ → ℕ) (b : Action) (mine theirs : Mine) → t ≢ u → Gives v (rest_of xs p u) (record { action = b; turn = other })
      → AreOwn mine (rest_of xs (turned turn t p) t) → AreOwn theirs (rest_of xs (turned other u p) u) → ((m : ℕ) → mine m ≡ true → theirs m ≡ false)
      → settled n xs t (turned turn t p) t ≡ settled n xs t (turned turn t (settled n xs u (turned other u p))) t
  same_step t u turn other p b mine theirs ne gives own owns apart =
      step_alike t turn mine p (settled n xs u (turned other u p)) own
      (record {
        here = sym (turned-other n xs u other p t ne);
        sums = λ m has w. sym (step_adds u other p b theirs gives owns m w (apart m has));
      })

  pub steps_swap : (t u : ℕ) (turn other : Turn) (p : ℕ → ℕ) (a b : Action) (mine theirs : Mine) → t ≢ u
      → Gives v (rest_of xs p t) (record { action = a; turn = turn }) → Gives v (rest_of xs p u) (record { action = b; turn = other })
      → AreOwn mine (rest_of xs (turned turn t p) t) → AreOwn theirs (rest_of xs (turned other u p) u) → ((m : ℕ) → mine m ≡ true → theirs m ≡ false)
      → settled n xs t (turned turn t (settled n xs u (turned other u p))) ≡ settled n xs u (turned other u (settled n xs t (turned turn t p)))
  steps_swap t u turn other p a b mine theirs ne gives given own owns apart = λ i w. at w i
    where
      back : (m : ℕ) → theirs m ≡ true → mine m ≡ false
      back m has = elim (known (mine m)) [ inl is ↦ let both : true ≡ false = sym has ∙ apart m is in absurd (cc) | inr not ↦ not ]

      at : (w : ℕ) → settled n xs t (turned turn t (settled n xs u (turned other u p))) w ≡ settled n xs u (turned other u (settled n xs t (turned turn t p))) w
      at w = elim (eqb_tells w t) [
        | inl e ↦
            subst (λ (i : ℕ). settled n xs t (turned turn t (settled n xs u (turned other u p))) i ≡ settled n xs u (turned other u (settled n xs t (turned turn t p))) i) (sym e.1)
            (sym (same_step t u turn other p b mine theirs ne given own owns apart) ∙ sym (turned-other n xs u other (settled n xs t (turned turn t p)) t ne))
        | inr e ↦
            elim (eqb_tells w u) [
              | inl d ↦
                  subst (λ (i : ℕ). settled n xs t (turned turn t (settled n xs u (turned other u p))) i ≡ settled n xs u (turned other u (settled n xs t (turned turn t p))) i) (sym d.1)
                  (
                  turned-other n xs t turn (settled n xs u (turned other u p)) u (λ z. ne (sym z))
                  ∙ same_step u t other turn p a theirs mine (λ z. ne (sym z)) gives owns own back
                  )
              | inr d ↦
                  turned-other n xs t turn (settled n xs u (turned other u p)) w e.1
                  ∙ (turned-other n xs u other p w d.1
                  ∙ sym (turned-other n xs u other (settled n xs t (turned turn t p)) w d.1 ∙ turned-other n xs t turn p w e.1))
            ]
      ]

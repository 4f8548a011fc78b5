-- Where the bytes that are held don't decide.
use Rattle.std.proofs.Common.{◌≡◌, ℕ, ◌+◌, ◌⊎◌, inl, inr, List, [], ◌++◌, refl, ap, sym, subst, ◌∙◌, append_assoc, Ok, Err}
use Rattle.larch_actions.specs.declared.event.Version.{Version}
use Rattle.larch_actions.specs.declared.event.Layout.{Layout}
use Rattle.larch_actions.specs.Layout.{IsLawful, HasNames}
use Rattle.trace_core.specs.declared.line.Line.TheVariants as line
use Rattle.trace_core.specs.declared.line.Expect.TheVariants as expect
use Rattle.exact_text.specs.declared.stop.Stop.TheVariants.{More}
use Rattle.exact_text.specs.declared.intake.Intake.{Intake}
use Rattle.exact_text.specs.Prefixes.{Begins}
use Rattle.trace_core.specs.Lacking.{IsUndecided}
use Rattle.trace_core.specs.Text.{IsTrace, IsRest, IsValues, first_line, layout_line, head_text, event_line}
use Rattle.trace_core.specs.Lines.{line_at, IsPossible}
use Rattle.exact_text.proofs.CodeLaws.{ok_injective}
use Rattle.trace_core.proofs.LineLaws.{line_code}
use Rattle.trace_core.proofs.Plain.{plain_event, plain_is_read, plain_line}
use Rattle.trace_core.proofs.Texts.{line_grammar}
use Rattle.exact_text.proofs.Grammar.{prefix, prefix_from}
use Rattle.trace_core.proofs.Outcomes.{more_lacks, same_version}
use Rattle.trace_core.proofs.Ends.{all_begin}

pub undecided_event : (l : Layout) (n : ℕ) → IsPossible (expect.Events l n) → (w : List ℕ) → line_at (expect.Events l n) w ≡ Err More → IsUndecided (IsRest l n) (HasNames l) (event_line n) w
undecided_event l n ok w e =
    let x = expect.Events l n in
    (prefix (line_grammar x ok) (line_code x ok) w e, λ v a h eq. more_lacks x ok w e (line.Event (plain_event v)) a (plain_is_read l ok.0 v h) (eq ∙ ap (λ t. t ++ a) (sym (plain_line l ok.0 n v h))))

-- after the end line the values decide
pub undecided_end : (l : Layout) (n : ℕ) → IsPossible (expect.Events l n) → (w w' : List ℕ) → line_at (expect.Events l n) w ≡ Ok (line.End, w') → Begins (IsValues l 0) w' → IsUndecided (IsRest l n) (HasNames l) (event_line n) w
undecided_end l n ok w w' e b =
    let x = expect.Events l n in
    let code = line_code x ok in (
      prefix_from (line_grammar x ok) code w w' line.End e b,
      λ v a h eq.
          let read = plain_event v in
          let same : (line.End, w') ≡ (line.Event read, a) = ok_injective (sym e ∙ ap (line_at x) (eq ∙ ap (λ t. t ++ a) (sym (plain_line l ok.0 n v h))) ∙ code.again (line.Event read) a (plain_is_read l ok.0 v h)) in
          let k : line.End ≡ line.Event read = ap (λ p. p.0) same in absurd (cc),
    )

pub undecided_first : (w : List ℕ) → line_at expect.Head w ≡ Err More → IsUndecided IsTrace IsLawful head_text w
undecided_first w e =
    (prefix (line_grammar expect.Head tt) (line_code expect.Head tt) w e, λ l a h eq. more_lacks expect.Head tt w e (line.Head l.version) (layout_line l ++ a) tt (eq ∙ append_assoc (first_line l.version) (layout_line l) a))

pub undecided_counts : (v : Version) (w w' : List ℕ) → line_at expect.Head w ≡ Ok (line.Head v, w') → line_at (expect.Counts v) w' ≡ Err More → IsUndecided IsTrace IsLawful head_text w
undecided_counts v w w' e m =
    let code = line_code expect.Head tt in (
      prefix_from (line_grammar expect.Head tt) code w w' (line.Head v) e (prefix (line_grammar (expect.Counts v) tt) (line_code (expect.Counts v) tt) w' m),
      λ l a h eq.
          let same : (line.Head v, w') ≡ (line.Head l.version, layout_line l ++ a) = ok_injective (sym e ∙ ap (line_at expect.Head) (eq ∙ append_assoc (first_line l.version) (layout_line l) a) ∙ code.again (line.Head l.version) (layout_line l ++ a) tt) in
          more_lacks (expect.Counts v) tt w' m (line.Counts l) a (h, same_version v l.version (ap (λ p. p.0) same)) (ap (λ p. p.1) same),
    )

pub undecided_value : (l : Layout) (least : ℕ) → IsPossible (expect.Values l least) → (w : List ℕ) → line_at (expect.Values l least) w ≡ Err More → Begins (IsValues l least) w
undecided_value l least ok w e = all_begin l least w (prefix (line_grammar (expect.Values l least) ok) (line_code (expect.Values l least) ok) w e)

pub undecided_values : (l : Layout) (least k v : ℕ) → IsPossible (expect.Values l least) → (w w' : List ℕ) → line_at (expect.Values l least) w ≡ Ok (line.Value k v, w') → Begins (IsValues l (k + 1)) w' → Begins (IsValues l least) w
undecided_values l least k v ok w w' e b = all_begin l least w (prefix_from (line_grammar (expect.Values l least) ok) (line_code (expect.Values l least) ok) w w' (line.Value k v) e b)

pub nothing_held : (l : Layout) (least : ℕ) (w : List ℕ) → w ≡ [] → Begins (IsValues l least) w
nothing_held l least w e = subst (Begins (IsValues l least)) (sym e) ([], ([], tt, refl))

-- Below, a, b, c and d are the source as it was before and after each step.
-- only whether the source was asked
pub asked_or_not : {I P Q : Type 0} {a b : I} → ((b ≡ a) × P) ⊎ Q → (b ≡ a) ⊎ Q
asked_or_not h = elim h [ inl p ↦ inl p.0 | inr q ↦ inr q ]

pub first_asks : {I : Type 0} {a b : I} (w : List ℕ) → (b ≡ a) ⊎ (line_at expect.Head w ≡ Err More) → (b ≡ a) ⊎ IsUndecided IsTrace IsLawful head_text w
first_asks w h = elim h [ inl p ↦ inl p | inr e ↦ inr (undecided_first w e) ]

pub head_asks : {I : Type 0} {a b c : I} (v : Version) (w w' : List ℕ) → ((b ≡ a) × (line_at expect.Head w ≡ Ok (line.Head v, w'))) ⊎ (line_at expect.Head w ≡ Err More) → (c ≡ b) ⊎ (line_at (expect.Counts v) w' ≡ Err More)
    → (c ≡ a) ⊎ IsUndecided IsTrace IsLawful head_text w
head_asks v w w' h k =
    elim h [
      | inl p ↦ elim k [ inl q ↦ inl (q ∙ p.0) | inr m ↦ inr (undecided_counts v w w' p.1 m) ]
      | inr e ↦ inr (undecided_first w e)
    ]

pub event_asks : {I : Type 0} {a b : I} (l : Layout) (n : ℕ) → IsPossible (expect.Events l n) → (w : List ℕ) → (b ≡ a) ⊎ (line_at (expect.Events l n) w ≡ Err More) → (b ≡ a) ⊎ IsUndecided (IsRest l n) (HasNames l) (event_line n) w
event_asks l n ok w h = elim h [ inl p ↦ inl p | inr e ↦ inr (undecided_event l n ok w e) ]

pub end_asks : {I : Type 0} {a b c : I} (l : Layout) (n : ℕ) → IsPossible (expect.Events l n) → (w w' : List ℕ) → ((b ≡ a) × (line_at (expect.Events l n) w ≡ Ok (line.End, w'))) ⊎ (line_at (expect.Events l n) w ≡ Err More) → (c ≡ b) ⊎ Begins (IsValues l 0) w'
    → (c ≡ a) ⊎ IsUndecided (IsRest l n) (HasNames l) (event_line n) w
end_asks l n ok w w' h k =
    elim h [
      | inl p ↦ elim k [ inl q ↦ inl (q ∙ p.0) | inr m ↦ inr (undecided_end l n ok w w' p.1 m) ]
      | inr e ↦ inr (undecided_event l n ok w e)
    ]

pub value_asks : {I : Type 0} {a b c : I} (l : Layout) (least : ℕ) → IsPossible (expect.Values l least) → (old new : Intake) → ((b ≡ a) × (new ≡ old)) ⊎ (old.window ≡ []) → (c ≡ b) ⊎ (line_at (expect.Values l least) new.window ≡ Err More)
    → (c ≡ a) ⊎ Begins (IsValues l least) old.window
value_asks l least ok old new g h =
    elim g [
      | inl p ↦
          elim h [
            | inl q ↦ inl (q ∙ p.0)
            | inr e ↦ inr (subst (Begins (IsValues l least)) (ap (λ i. i.window) p.1) (undecided_value l least ok new.window e))
          ]
      | inr e ↦ inr (nothing_held l least old.window e)
    ]

pub values_asks : {I : Type 0} {a b c d : I} (l : Layout) (least k v : ℕ) → IsPossible (expect.Values l least) → (old new : Intake) (w' : List ℕ) → ((b ≡ a) × (new ≡ old)) ⊎ (old.window ≡ [])
    → ((c ≡ b) × (line_at (expect.Values l least) new.window ≡ Ok (line.Value k v, w'))) ⊎ (line_at (expect.Values l least) new.window ≡ Err More) → (d ≡ c) ⊎ Begins (IsValues l (k + 1)) w' → (d ≡ a) ⊎ Begins (IsValues l least) old.window
values_asks l least k v ok old new w' g h m =
    elim g [
      | inl p ↦
          let same = ap (λ i. i.window) p.1 in
          elim h [
            | inl q ↦
                elim m [
                  | inl r ↦ inl (r ∙ q.0 ∙ p.0)
                  | inr b ↦ inr (subst (Begins (IsValues l least)) same (undecided_values l least k v ok new.window w' q.1 b))
                ]
            | inr e ↦ inr (subst (Begins (IsValues l least)) same (undecided_value l least ok new.window e))
          ]
      | inr e ↦ inr (nothing_held l least old.window e)
    ]

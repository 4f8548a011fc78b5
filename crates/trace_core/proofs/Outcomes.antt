-- What each way out of reading a line means for the bytes that weren't read before.
use Rattle.std.proofs.Common.{◌≡◌, ℕ, ◌+◌, ◌≤◌, ◌⊎◌, inl, inr, List, [], ◌++◌, length, take, ap, sym, subst, ◌∙◌, append_assoc, Err, Some, None, IfSome}
use Rattle.std.proofs.lemmas.List.{take_all}
use Rattle.std.specs.Io.KnownBytes.{Consumes}
use Rattle.std.specs.declared.option.Option.{Option}
use Rattle.exact_text.specs.declared.stop.Stop.{Stop}
use Rattle.exact_text.specs.declared.stop.Stop.TheVariants.{More, Dead}
use Rattle.trace_core.specs.declared.line.Line.{Line}
use Rattle.trace_core.specs.declared.line.Expect.{Expect}
use Rattle.exact_text.specs.declared.fault.TextFault.{TextFault}
use Rattle.exact_text.specs.declared.fault.TextFault.TheVariants.{Memory, BadLine, TooLong, Read}
use Rattle.exact_text.specs.Exact.{HasReason, IsStuck, bytes_room}
use Rattle.trace_core.specs.Lacking.{Misses, LacksAt}
use Rattle.larch_actions.specs.declared.event.Version.{Version}
use Rattle.larch_actions.specs.declared.event.Layout.{Layout}
use Rattle.larch_actions.specs.Layout.{IsLawful, HasNames}
use Rattle.trace_core.specs.declared.line.Line.TheVariants as line
use Rattle.trace_core.specs.declared.line.Expect.TheVariants as expect
use Rattle.trace_core.specs.Text.{first_line, layout_line, head_text, event_line, end_line}
use Rattle.exact_text.proofs.CodeLaws.{read_same}
use Rattle.trace_core.specs.Lines.{line_at, line_text, IsPossible, IsAllowed, IsTextFrom, IsTextAfter}
use Rattle.trace_core.proofs.LineLaws.{line_code}
use Rattle.trace_core.proofs.Texts.{line_grammar}
use Rattle.trace_core.proofs.Plain.{plain_event, plain_is_read, plain_line}
use Rattle.exact_text.proofs.Stuck.{for_some, take_after}
use Rattle.exact_text.proofs.Texts.{bytes_before, reason_line}
use Rattle.std.proofs.KnownBytes.{Consumes-trans}

-- why the rest wasn't read after a line is why the text wasn't
pub after_line : (x : Expect) (ok : IsPossible x) (y : Line) → IsAllowed x y → (r r' left' : Option (List ℕ)) (lines lines' room room' first before now : ℕ) (fault : TextFault) → Consumes r r' (line_text x y) → room' + length (line_text x y) ≡ room
    → lines' ≡ lines + 1 → first ≤ before → HasReason (IsTextAfter x y) (bytes_room room') lines' r' left' before now fault → HasReason (IsTextFrom x) (bytes_room room) lines r left' first now fault
after_line x ok y a r r' left' lines lines' room room' first before now fault c size count le h =
    reason_line (λ _ t. inr t) (λ _ t. t) (line_grammar x ok) (line_code x ok) y a (bytes_room room) (bytes_room room') (bytes_before (line_text x y) room room' size) r r' left' lines lines' first before now fault c count le h

misses : (x : Expect) → IsPossible x → (w : List ℕ) (s : Stop) → line_at x w ≡ Err s → Misses (IsAllowed x) (line_text x) w
misses x ok w s e = λ y a h eq. let o = ap (line_at x) eq ∙ (line_code x ok).again y a h in absurd (cc)

pub more_lacks : (x : Expect) → IsPossible x → (w : List ℕ) → line_at x w ≡ Err More → Misses (IsAllowed x) (line_text x) w
more_lacks x ok w e = misses x ok w More e

first_lacking : (x : Expect) → IsPossible x → (room : ℕ) (input : List ℕ) → (line_at x (take room input) ≡ Err Dead) ⊎ ((length input ≤ room) × (line_at x input ≡ Err More)) → Misses (IsAllowed x) (line_text x) (take room input)
first_lacking x ok room input (inl e) = misses x ok (take room input) Dead e
first_lacking x ok room input (inr c) = misses x ok (take room input) More (ap (line_at x) (take_all room input c.0) ∙ c.1)

-- where no line was read there was none to be given
pub stuck_lacks : (x : Expect) → IsPossible x → (r left' : Option (List ℕ)) (lines room before now : ℕ) (fault : TextFault) → IsStuck (line_at x) lines room r left' before now fault → LacksAt (IsAllowed x) (line_text x) room r left' fault
stuck_lacks x ok r left' lines room before now Memory h = h
stuck_lacks x ok r left' lines room before now (BadLine k) h = for_some r (first_lacking x ok room) h.1
stuck_lacks x ok r left' lines room before now TooLong h = for_some r (λ input e. misses x ok (take room input) More e.1) h
stuck_lacks x ok r left' lines room before now Read h = (h.1.0, h.1.1, misses x ok h.1.0 More h.1.2)

-- two lines at the front of the same bytes are one
pub same_line : (x : Expect) → IsPossible x → (y z : Line) (a b : List ℕ) → IsAllowed x y → IsAllowed x z → line_text x y ++ a ≡ line_text x z ++ b → (y ≡ z) × (a ≡ b)
same_line x ok y z a b p q e = read_same (line_code x ok) y z a b p q e

-- bytes that miss the one miss the other
lacks_also : {X Y : Type 0} (lawful : X → Type 0) (text : X → List ℕ) (lawful' : Y → Type 0) (text' : Y → List ℕ) (room : ℕ) (r left' : Option (List ℕ)) (fault : TextFault)
    → ((bytes : List ℕ) → Misses lawful text bytes → Misses lawful' text' bytes) → LacksAt lawful text room r left' fault → LacksAt lawful' text' room r left' fault
lacks_also lawful text lawful' text' room r left' Memory f h = h
lacks_also lawful text lawful' text' room r left' (BadLine k) f h = for_some r (λ xs. f (take room xs)) h
lacks_also lawful text lawful' text' room r left' TooLong f h = for_some r (λ xs. f (take room xs)) h
lacks_also lawful text lawful' text' room r left' Read f h = (h.0, h.1, f h.0 h.2)

-- the same after some bytes
misses_after : {X Y : Type 0} (lawful : X → Type 0) (text : X → List ℕ) (lawful' : Y → Type 0) (text' : Y → List ℕ) (prefix : List ℕ) (room room' : ℕ) (r r' : Option (List ℕ))
    → ((bytes : List ℕ) → Misses lawful text bytes → Misses lawful' text' (prefix ++ bytes)) → Consumes r r' prefix → room' + length prefix ≡ room
    → IfSome r' (λ input. Misses lawful text (take room' input)) → IfSome r (λ input. Misses lawful' text' (take room input))
misses_after lawful text lawful' text' prefix room room' None r' f c same h = tt
misses_after lawful text lawful' text' prefix room room' (Some xs) None f c same h = absurd c
misses_after lawful text lawful' text' prefix room room' (Some xs) (Some ys) f c same h = subst (Misses lawful' text') (sym (take_after prefix xs ys room room' c same)) (f (take room' ys) h)

lacks_after : {X Y : Type 0} (lawful : X → Type 0) (text : X → List ℕ) (lawful' : Y → Type 0) (text' : Y → List ℕ) (prefix : List ℕ) (room room' : ℕ) (r r' left' : Option (List ℕ)) (fault : TextFault)
    → ((bytes : List ℕ) → Misses lawful text bytes → Misses lawful' text' (prefix ++ bytes)) → Consumes r r' prefix → room' + length prefix ≡ room
    → LacksAt lawful text room' r' left' fault → LacksAt lawful' text' room r left' fault
lacks_after lawful text lawful' text' prefix room room' r r' left' Memory f c same h = h
lacks_after lawful text lawful' text' prefix room room' r r' left' (BadLine k) f c same h = misses_after lawful text lawful' text' prefix room room' r r' f c same h
lacks_after lawful text lawful' text' prefix room room' r r' left' TooLong f c same h = misses_after lawful text lawful' text' prefix room room' r r' f c same h
lacks_after lawful text lawful' text' prefix room room' r r' left' Read f c same h = (prefix ++ h.0, Consumes-trans r r' left' prefix h.0 c h.1, f h.0 h.2)

abbrev IsNone : ℕ → Type 0
IsNone n = ⊥

abbrev none_text : ℕ → List ℕ
none_text n = []

misses_none : (bytes : List ℕ) → Misses IsNone none_text bytes
misses_none bytes = λ x a h eq. h

nothing_lacks : (T : List ℕ → Type 0) (lines room : ℕ) (r left' : Option (List ℕ)) (before now : ℕ) (fault : TextFault) → HasReason T (bytes_room room) lines r left' before now fault → LacksAt IsNone none_text room r left' fault
nothing_lacks T lines room r left' before now Memory h = h
nothing_lacks T lines room None left' before now (BadLine k) h = tt
nothing_lacks T lines room (Some xs) left' before now (BadLine k) h = misses_none (take room xs)
nothing_lacks T lines room None left' before now TooLong h = tt
nothing_lacks T lines room (Some xs) left' before now TooLong h = misses_none (take room xs)
nothing_lacks T lines room r left' before now Read h = (h.1.0, h.1.1, misses_none h.1.0)

-- after the end line no event was there
pub end_lacks : (l : Layout) (n : ℕ) → IsPossible (expect.Events l n) → (T : List ℕ → Type 0) (lines room room' : ℕ) (r r' left' : Option (List ℕ)) (before now : ℕ) (fault : TextFault)
    → Consumes r r' (end_line n) → room' + length (end_line n) ≡ room → HasReason T (bytes_room room') lines r' left' before now fault → LacksAt (HasNames l) (event_line n) room r left' fault
end_lacks l n ok T lines room room' r r' left' before now fault c same h =
    lacks_after IsNone none_text (HasNames l) (event_line n) (end_line n) room room' r r' left' fault
    (λ bytes _ e a p eq.
    let s = same_line (expect.Events l n) ok line.End (line.Event (plain_event e)) bytes a tt (plain_is_read l ok.0 e p) (eq ∙ ap (λ t. t ++ a) (sym (plain_line l ok.0 n e p))) in
    let k = s.0 in absurd (cc))
    c same (nothing_lacks T lines room' r' left' before now fault h)

pub event_lacks : (l : Layout) → IsLawful l → (n : ℕ) (r left' : Option (List ℕ)) (room : ℕ) (fault : TextFault) → LacksAt (IsAllowed (expect.Events l n)) (line_text (expect.Events l n)) room r left' fault → LacksAt (HasNames l) (event_line n) room r left' fault
event_lacks l ok n r left' room fault h =
    lacks_also (IsAllowed (expect.Events l n)) (line_text (expect.Events l n)) (HasNames l) (event_line n) room r left' fault
    (λ bytes m e a p eq. m (line.Event (plain_event e)) a (plain_is_read l ok e p) (eq ∙ ap (λ t. t ++ a) (sym (plain_line l ok n e p)))) h

-- the first lines of two versions differ
pub same_version : (v w : Version) → line.Head v ≡ line.Head w → w ≡ v
same_version v w e = cc

pub first_lacks : (r left' : Option (List ℕ)) (room : ℕ) (fault : TextFault) → LacksAt (IsAllowed expect.Head) (line_text expect.Head) room r left' fault → LacksAt IsLawful head_text room r left' fault
first_lacks r left' room fault h =
    lacks_also (IsAllowed expect.Head) (line_text expect.Head) IsLawful head_text room r left' fault (λ bytes m l a p eq. m (line.Head l.version) (layout_line l ++ a) tt (eq ∙ append_assoc (first_line l.version) (layout_line l) a)) h

pub counts_lacks : (v : Version) (r r' left' : Option (List ℕ)) (room room' : ℕ) (fault : TextFault) → Consumes r r' (first_line v) → room' + length (first_line v) ≡ room
    → LacksAt (IsAllowed (expect.Counts v)) (line_text (expect.Counts v)) room' r' left' fault → LacksAt IsLawful head_text room r left' fault
counts_lacks v r r' left' room room' fault c same h =
    lacks_after (IsAllowed (expect.Counts v)) (line_text (expect.Counts v)) IsLawful head_text (first_line v) room room' r r' left' fault
    (λ bytes m l a p eq.
    let s = same_line expect.Head tt (line.Head v) (line.Head l.version) bytes (layout_line l ++ a) tt tt (eq ∙ append_assoc (first_line l.version) (layout_line l) a) in
    m (line.Counts l) a (p, same_version v l.version s.0) s.1)
    c same h

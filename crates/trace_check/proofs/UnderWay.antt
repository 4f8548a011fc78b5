-- What holds between two events of a check.
use Rattle.std.proofs.Common.{◌≡◌, ℕ, ◌+◌, ◌-◌, ◌^◌, ◌<◌, ◌≤◌, inl, inr, List, [], ◌∷◌, ◌++◌, length, length-append, take, refl, ap, sym, subst, ◌∙◌, append_assoc, append-nil, Some, None, IfSome, arith}
use Rattle.std.specs.List.{AllByRecursion}
use Rattle.std.specs.Io.KnownBytes.{Consumes}
use Rattle.std.specs.declared.option.Option.{Option}
use Rattle.std.proofs.lemmas.List.{length-take, append_cancel_right}
use Rattle.larch_actions.specs.declared.event.Layout.{Layout}
use Rattle.larch_actions.specs.declared.event.Event.{Event}
use Rattle.larch_actions.specs.declared.event.Broken.{Broken}
use Rattle.larch_actions.specs.Layout.{IsLawful, HasNames}
use Rattle.larch_actions.specs.Actions.{Spec, Acts, Fails, IsRun, at_first}
use Rattle.larch_actions.specs.State.{Moment, spec_of, held, waiting, alerted}
use Rattle.exact_text.specs.declared.fault.TextFault.{TextFault}
use Rattle.exact_text.specs.declared.fault.TextFault.TheVariants as fault
use Rattle.trace_core.specs.declared.reader_state.Phase.TheVariants as phase
use Rattle.trace_core.specs.declared.line.Line.TheVariants as line
use Rattle.trace_core.specs.declared.line.Expect.TheVariants as expect
use Rattle.exact_text.specs.Prefixes.{Begins}
use Rattle.exact_text.specs.Exact.{IsShown, HasReason, bytes_room}
use Rattle.trace_core.specs.Lacking.{Misses, LacksAt}
use Rattle.trace_core.specs.Made.{IsMade}
use Rattle.trace_core.specs.ReaderState.{ReaderState}
use Rattle.trace_core.specs.Steps.{TakesHead, TakesEvent, TakesEnd, Breaks}
use Rattle.trace_core.specs.Text.{first_line, layout_line, head_text, event_line, end_line, values_text, rest_text, trace_text, IsTrace, IsRest}
use Rattle.trace_core.proofs.Outcomes.{after_line}
use Rattle.std.proofs.KnownBytes.{Consumes-trans}
use Rattle.exact_text.proofs.Stuck.{take_after, Consumes-split}
use Rattle.trace_core.specs.Whole.{event_lines}
use Rattle.trace_check.specs.Verdicts.{prefix_text, NoFault, IsCutOff, refusal, IsJust, IsPrefixText, IsLegalText, IsIllegalText}
use Rattle.trace_check.specs.declared.checker.Summary.{Summary}
use Rattle.trace_check.proofs.Runs.{leads-push, leads-split}
use Rattle.trace_check.proofs.Alike.{AreReadable, readable, plain_all, plain_readable, leads_back}
use Rattle.trace_check.proofs.Prefixes.{prefix_text-push, prefix_text-plain, rest_text-split, named-push, made-push, readable-last, length-prefix_text, same_prefix, le_total}

-- so far these events were read, and they are a run
pub record IsUnderWay (budget : ℕ) (left₀ : Option (List ℕ)) (before : ℕ) (st : ReaderState) (now : ℕ) (m : Moment) (count : ℕ) : Type 0 where
  pub events : List Event
  pub phase : st.phase ≡ phase.Events
  pub lawful : IsLawful st.layout
  pub layout : m.layout ≡ st.layout
  pub named : AllByRecursion (HasNames st.layout) events
  pub made : AllByRecursion (λ (e : Event). IsMade e.action) events
  pub run : IsRun st.layout.version events (spec_of m)
  pub counted : length events ≡ count
  pub place : st.place ≡ count
  pub read : Consumes left₀ st.rest (prefix_text st.layout events)
  pub room : st.room + length (prefix_text st.layout events) ≡ budget
  pub reasons : (left' : Option (List ℕ)) (after : ℕ) (f : TextFault) → HasReason (IsRest st.layout st.place) (bytes_room st.room) st.lines st.rest left' now after f
      → HasReason IsTrace (bytes_room budget) 0 left₀ left' before after f

-- the count of events is within the budget
pub few : (budget : ℕ) (left₀ : Option (List ℕ)) (before : ℕ) (st : ReaderState) (now : ℕ) (m : Moment) (count : ℕ) → IsUnderWay budget left₀ before st now m count → count ≤ budget
few budget left₀ before st now m count u = omega (arith, length-prefix_text st.layout u.events, u.counted, u.room)

-- another event may stand after the next
pub possible : (budget : ℕ) (left₀ : Option (List ℕ)) (before : ℕ) (st : ReaderState) (now : ℕ) (m : Moment) (count : ℕ) → budget < 2 ^ 64 - 1 → IsUnderWay budget left₀ before st now m count → IsLawful st.layout × (st.place + 1 < 2 ^ 64)
possible budget left₀ before st now m count fits u = (u.lawful, omega (arith, few budget left₀ before st now m count u, u.place))

length-push : (xs ys : List ℕ) (n m room room' : ℕ) → room + n ≡ m → room' + length ys ≡ room → length xs ≡ n → room' + length (xs ++ ys) ≡ m
length-push xs ys n m room room' a b c = omega (arith, length-append xs ys)

-- the bytes up to the end of this event's line
pub read_on : (budget : ℕ) (left₀ : Option (List ℕ)) (before now : ℕ) (p p' : ReaderState) (m : Moment) (count : ℕ) (e : Event)
    → (u : IsUnderWay budget left₀ before p now m count) → TakesEvent p p' e
    → Consumes left₀ p'.rest (prefix_text p.layout (u.events ++ e ∷ [])) × (p'.room + length (prefix_text p.layout (u.events ++ e ∷ [])) ≡ budget)
read_on budget left₀ before now p p' m count e u t =
    let at : length u.events ≡ p.place = u.counted ∙ sym u.place in
    let text : prefix_text p.layout (u.events ++ e ∷ []) ≡ prefix_text p.layout u.events ++ event_line p.place e =
    prefix_text-push p.layout u.events e ∙ ap (λ k. prefix_text p.layout u.events ++ event_line k e) at
    in
    let Q : List ℕ → Type 0 = λ x. Consumes left₀ p'.rest x × (p'.room + length x ≡ budget) in
    subst Q (sym text) (
      Consumes-trans left₀ p.rest p'.rest (prefix_text p.layout u.events) (event_line p.place e) u.read t.passes.bytes,
      length-push (prefix_text p.layout u.events) (event_line p.place e) _ budget p.room p'.room u.room t.passes.room refl,
    )

unfoldable pub step_on : (budget : ℕ) (left₀ : Option (List ℕ)) (before now now' : ℕ) (p p' : ReaderState) (m m' : Moment) (count : ℕ) (e : Event) → budget < 2 ^ 64 - 1
    → IsUnderWay budget left₀ before p now m count → TakesEvent p p' e → Acts (spec_of m) e (spec_of m') → m'.layout ≡ m.layout → now ≤ now' → IsUnderWay budget left₀ before p' now' m' (count + 1)
step_on budget left₀ before now now' p p' m m' count e fits u t a same le =
    let r = read_on budget left₀ before now p p' m count e u t in record {
      events = u.events ++ e ∷ [];
      phase = t.phase;
      lawful = subst IsLawful (sym t.layout) u.lawful;
      layout = same ∙ u.layout ∙ sym t.layout;
      named = rw t.layout (named-push p.layout u.events e u.named t.names);
      made = made-push u.events e u.made t.made;
      run = rw t.layout (leads-push (at_first p.layout.version) (spec_of m) (spec_of m') u.events e u.run a);
      counted = length-append u.events (e ∷ []) ∙ ap (λ k. k + 1) u.counted;
      place = t.place ∙ ap (λ k. k + 1) u.place;
      read = rw t.layout r.0;
      room = rw t.layout r.1;
      reasons = λ left'' after f h.
          u.reasons left'' after f
          (after_line (expect.Events p.layout p.place) (possible budget left₀ before p now m count fits u) (line.Event e) (t.names, t.made) p.rest p'.rest left'' p.lines p'.lines p.room p'.room now now' after f t.passes.bytes t.passes.room t.passes.lines le (rw (t.layout, t.place) at h));
    }

pub consumes_some : (bytes : List ℕ) (r : Option (List ℕ)) (text : List ℕ) → Consumes (Some bytes) r text → (ys : List ℕ) × (bytes ≡ text ++ ys) × (r ≡ Some ys)
consumes_some bytes None text c = absurd c
consumes_some bytes (Some ys) text c = (ys, c, refl)

-- the events that were read stand at the front of the input
unfoldable pub prefix_read : (budget : ℕ) (left₀ : Option (List ℕ)) (before now : ℕ) (p : ReaderState) (m : Moment) (count : ℕ) → IsUnderWay budget left₀ before p now m count
    → (bytes : List ℕ) → left₀ ≡ Some bytes → IsPrefixText budget bytes
prefix_read budget left₀ before now p m count u bytes reported_is =
    let b = consumes_some bytes p.rest (prefix_text p.layout u.events) (subst (λ o. Consumes o p.rest (prefix_text p.layout u.events)) reported_is u.read) in
    record {
      layout = p.layout;
      events = u.events;
      rest = b.0;
      last = spec_of m;
      lawful = u.lawful;
      named = u.named;
      text = b.1;
      within = omega (arith, u.room);
      run = u.run;
    }

no_more : (l' l : Layout) (place : ℕ) (es tail : List Event) (seen more : List ℕ) → length es ≡ place → l' ≡ l → AreReadable l tail → 0 < length tail → seen ≡ event_lines (length es) tail ++ more
    → Misses (HasNames l') (event_line place) seen → ⊥
no_more l' l place es [] seen more at same named some e misses = omega arith
no_more l' l place es (x ∷ tail) seen more at same named some e misses =
    misses x (event_lines (length es + 1) tail ++ more) (subst (λ k. HasNames k x) (sym same) named.0.0)
    (e ∙ append_assoc (event_line (length es) x) (event_lines (length es + 1) tail) more ∙ ap (λ n. event_line n x ++ (event_lines (length es + 1) tail ++ more)) at)

-- where no further event stands after a run, all events are of the run
no_fault : (l' : Layout) (events : List Event) (place : ℕ) (last : Spec) (seen bytes : List ℕ) → IsLawful l' → AreReadable l' events → IsRun l'.version events last → length events ≡ place
    → bytes ≡ prefix_text l' events ++ seen → length bytes < 2 ^ 64 - 1 → Misses (HasNames l') (event_line place) seen → NoFault bytes
no_fault l' events place last seen bytes lawful names run at cut fits misses = λ l ds more ok said eq₀.
    let es = plain_all ds in
    let named = plain_readable l ok ds said in
    let eq : bytes ≡ prefix_text l es ++ more = eq₀ ∙ ap (λ t. t ++ more) (sym (prefix_text-plain l ok ds said)) in
    let few₁ : length es < 2 ^ 64 - 1 = omega (arith, length-prefix_text l es, ap length eq, length-append (prefix_text l es) more) in
    let few₂ : length events < 2 ^ 64 - 1 = omega (arith, length-prefix_text l' events, ap length cut, length-append (prefix_text l' events) seen) in
    elim (le_total (length es) (length events)) [
      | inl le ↦
          let s = same_prefix l l' es events more seen ok lawful few₂ named names le (sym eq ∙ cut) in
          let own : IsRun l.version (es ++ s.1.0) last = subst (λ (k : Layout). IsRun k.version (es ++ s.1.0) last) (sym s.0) (subst (λ x. IsRun l'.version x last) s.1.1 run) in
          let r = leads-split (at_first l.version) last es s.1.0 own in
          (r.0, leads_back l ok (at_first l.version) r.0 ds said r.1)
      | inr lt ↦
          let s = same_prefix l' l events es seen more lawful ok few₁ names named (omega arith) (sym cut ∙ eq) in
          let tail = readable-last l events s.1.0 (subst (AreReadable l) s.1.1 named) in
          let longer : 0 < length s.1.0 = omega (arith, ap length s.1.1, length-append events s.1.0) in
          absurd (no_more l' l place events s.1.0 seen more at s.0 tail longer s.1.2 misses)
    ]

pub whole_at : (r : Option (List ℕ)) (ys : List ℕ) (Holds : List ℕ → Type 0) → r ≡ Some ys → IfSome r Holds → Holds ys
whole_at r ys Holds e h = let Q : Option (List ℕ) → Type 0 = λ o. IfSome o Holds in subst Q e h

within_budget : (budget : ℕ) (left₀ : Option (List ℕ)) (before now : ℕ) (p : ReaderState) (m : Moment) (count : ℕ) → budget < 2 ^ 64 - 1
    → IsUnderWay budget left₀ before p now m count → IfSome p.rest (λ input. Misses (HasNames p.layout) (event_line p.place) (take p.room input)) → IfSome left₀ (λ bytes. NoFault (take budget bytes))
within_budget budget None before now p m count fits u misses = tt
within_budget budget (Some bytes) before now p m count fits u misses =
    let prefix = prefix_text p.layout u.events in
    let b = consumes_some bytes p.rest prefix u.read in
    let cut : take budget bytes ≡ prefix ++ take p.room b.0 = take_after prefix bytes b.0 budget p.room b.1 u.room in
    let short : length (take budget bytes) < 2 ^ 64 - 1 = omega (arith, length-take budget bytes) in
    no_fault p.layout u.events p.place (spec_of m) (take p.room b.0) (take budget bytes) u.lawful (readable p.layout u.events u.named u.made) u.run (u.counted ∙ sym u.place) cut short
    (whole_at p.rest b.0 (λ input. Misses (HasNames p.layout) (event_line p.place) (take p.room input)) b.2 misses)

-- an event that fails
unfoldable pub fails_on : (budget : ℕ) (left₀ : Option (List ℕ)) (before now : ℕ) (p p' : ReaderState) (m : Moment) (count : ℕ) (e : Event) (why : Broken)
    → IsUnderWay budget left₀ before p now m count → TakesEvent p p' e → Fails (spec_of m) e why → IfSome left₀ (λ bytes. IsIllegalText budget bytes count why)
fails_on budget None before now p p' m count e why u t f = tt
fails_on budget (Some bytes) before now p p' m count e why u t f =
    let r = read_on budget (Some bytes) before now p p' m count e u t in
    let b = consumes_some bytes p'.rest (prefix_text p.layout (u.events ++ e ∷ [])) r.0 in record {
      layout = p.layout;
      events = u.events;
      event = e;
      rest = b.0;
      lawful = u.lawful;
      named = named-push p.layout u.events e u.named t.names;
      text = b.1;
      within = omega (arith, r.1);
      fault = ([], spec_of m, refl, u.run, f);
      counted = sym u.counted;
    }

bad_just : (budget : ℕ) (left : Option (List ℕ)) (k : ℕ) → IfSome left (λ bytes. IsShown IsTrace budget bytes (k - 0)) → IfSome left (λ bytes. NoFault (take budget bytes)) → IfSome left (λ bytes. IsShown IsTrace budget bytes k × NoFault (take budget bytes))
bad_just budget None k h o = tt
bad_just budget (Some bytes) k h o = let z : k - 0 ≡ k = omega arith in (subst (IsShown IsTrace budget bytes) z h, o)

long_just : (budget : ℕ) (left : Option (List ℕ)) → IfSome left (λ bytes. (budget < length bytes) × Begins IsTrace (take budget bytes)) → IfSome left (λ bytes. NoFault (take budget bytes))
    → IfSome left (λ bytes. (budget < length bytes) × Begins IsTrace (take budget bytes) × NoFault (take budget bytes))
long_just budget None h o = tt
long_just budget (Some bytes) h o = (h.0, h.1, o)

-- the bytes given until reading failed
cut_off : (bytes : List ℕ) (left' : Option (List ℕ)) (given given' : List ℕ) → Consumes (Some bytes) left' given → Consumes (Some bytes) left' given' → given ≡ given'
cut_off bytes None given given' a b = absurd a
cut_off bytes (Some ys) given given' a b = append_cancel_right given given' ys (sym a ∙ b)

read_just : (budget : ℕ) (left₀ left' : Option (List ℕ)) (before now' : ℕ) (p : ReaderState) (now : ℕ) (m : Moment) (count : ℕ) → budget < 2 ^ 64 - 1
    → IsUnderWay budget left₀ before p now m count → HasReason IsTrace (bytes_room budget) 0 left₀ left' before now' fault.Read
    → LacksAt (HasNames p.layout) (event_line p.place) p.room p.rest left' fault.Read → IsJust budget left₀ left' before now' (refusal fault.Read)
read_just budget None left' before now' p now m count fits u h l = (h.0, tt)
read_just budget (Some bytes) left' before now' p now m count fits u h l =
    let prefix = prefix_text p.layout u.events in
    let whole = Consumes-trans (Some bytes) p.rest left' prefix l.0 u.read l.1 in
    let same : h.1.0 ≡ prefix ++ l.0 = cut_off bytes left' h.1.0 (prefix ++ l.0) h.1.1 whole in
    let short : length h.1.0 < 2 ^ 64 - 1 = omega (arith, h.1.3) in
    (h.0, (h.1.0, h.1.1, h.1.2, h.1.3, no_fault p.layout u.events p.place (spec_of m) l.0 h.1.0 u.lawful (readable p.layout u.events u.named u.made) u.run (u.counted ∙ sym u.place) same short l.2))

pub fault_on : (budget : ℕ) (left₀ left' : Option (List ℕ)) (before now now' : ℕ) (p p' : ReaderState) (m : Moment) (count : ℕ) (f : TextFault) → budget < 2 ^ 64 - 1
    → IsUnderWay budget left₀ before p now m count → Breaks (IsRest p.layout p.place) (HasNames p.layout) (event_line p.place) p p' left' now now' f → IsJust budget left₀ left' before now' (refusal f)
fault_on budget left₀ left' before now now' p p' m count fault.Memory fits u b = absurd b.reason
fault_on budget left₀ left' before now now' p p' m count (fault.BadLine k) fits u b = bad_just budget left₀ k (u.reasons left' now' (fault.BadLine k) b.reason).1 (within_budget budget left₀ before now p m count fits u b.lacks)
fault_on budget left₀ left' before now now' p p' m count fault.TooLong fits u b = long_just budget left₀ (u.reasons left' now' fault.TooLong b.reason) (within_budget budget left₀ before now p m count fits u b.lacks)
fault_on budget left₀ left' before now now' p p' m count fault.Read fits u b = read_just budget left₀ left' before now' p now m count fits u (u.reasons left' now' fault.Read b.reason) b.lacks

-- without a head there is no event
headless : (bytes : List ℕ) → Misses IsLawful head_text bytes → NoFault bytes
headless bytes h = λ l es more ok named e. absurd (h l (event_lines 0 es ++ more) ok (e ∙ append_assoc (head_text l) (event_lines 0 es) more))

no_head : (budget : ℕ) (left₀ : Option (List ℕ)) → IfSome left₀ (λ input. Misses IsLawful head_text (take budget input)) → IfSome left₀ (λ bytes. NoFault (take budget bytes))
no_head budget None h = tt
no_head budget (Some bytes) h = headless (take budget bytes) h

cut_in_head : (left₀ left' : Option (List ℕ)) (before now : ℕ) (budget : ℕ) → HasReason IsTrace (bytes_room budget) 0 left₀ left' before now fault.Read
    → LacksAt IsLawful head_text budget left₀ left' fault.Read → IfSome left₀ (λ bytes. IsCutOff budget bytes left')
cut_in_head None left' before now budget h l = tt
cut_in_head (Some bytes) left' before now budget h l =
    let same : l.0 ≡ h.1.0 = cut_off bytes left' l.0 h.1.0 l.1 h.1.1 in
    (h.1.0, h.1.1, h.1.2, h.1.3, subst NoFault same (headless l.0 l.2))

pub head_fault : (budget : ℕ) (left₀ left' : Option (List ℕ)) (before now : ℕ) (f : TextFault) → HasReason IsTrace (bytes_room budget) 0 left₀ left' before now f → LacksAt IsLawful head_text budget left₀ left' f → IsJust budget left₀ left' before now (refusal f)
head_fault budget left₀ left' before now fault.Memory h l = absurd h
head_fault budget left₀ left' before now (fault.BadLine k) h l = bad_just budget left₀ k h.1 (no_head budget left₀ l)
head_fault budget left₀ left' before now fault.TooLong h l = long_just budget left₀ h (no_head budget left₀ l)
head_fault budget left₀ left' before now fault.Read h l = (h.0, cut_in_head left₀ left' before now budget h l)

unfoldable pub ends_on : (budget : ℕ) (left₀ : Option (List ℕ)) (before now : ℕ) (p p' : ReaderState) (m : Moment) (count : ℕ) (s : Summary) → budget < 2 ^ 64 - 1
    → IsUnderWay budget left₀ before p now m count → TakesEnd p p' → s.events ≡ count → s.held ≡ held m.layout (spec_of m) → s.waiting ≡ waiting m.layout (spec_of m) → s.alerted ≡ alerted m.layout (spec_of m)
    → IfSome left₀ (λ bytes. IsLegalText budget bytes s)
ends_on budget None before now p p' m count s fits u t e h w a = tt
ends_on budget (Some bytes) before now p p' m count s fits u t e h w a =
    let b = consumes_some bytes p.rest (prefix_text p.layout u.events) u.read in
    let x = whole_at p.rest b.0 _ b.2 t.whole in
    let vs = x.0.0 in
    let at : p.place ≡ 0 + length u.events = omega (arith, u.place, u.counted) in
    let rest : event_lines 0 u.events ++ b.0 ≡ rest_text 0 u.events vs = ap (λ l. event_lines 0 u.events ++ l) (x.0.2 ∙ ap (λ n. end_line n ++ values_text vs) at) ∙ sym (rest_text-split 0 u.events vs) in
    let text : bytes ≡ trace_text p.layout u.events vs =
    b.1 ∙ append_assoc (head_text p.layout) (event_lines 0 u.events) b.0 ∙ ap (λ l. head_text p.layout ++ l) rest
    in record {
      layout = p.layout;
      events = u.events;
      values = vs;
      last = spec_of m;
      text = record { lawful = u.lawful; named = u.named; few = omega (arith, few budget (Some bytes) before p now m count u, u.counted); valued = x.0.1; text = text };
      within = omega (arith, ap length b.1, length-append (prefix_text p.layout u.events) b.0, x.1, u.room);
      run = u.run;
      counts = record {
        events = e ∙ sym u.counted;
        held = h ∙ ap (λ l. held l (spec_of m)) u.layout;
        waiting = w ∙ ap (λ l. waiting l (spec_of m)) u.layout;
        alerted = a ∙ ap (λ l. alerted l (spec_of m)) u.layout;
      };
    }

unfoldable pub starts_on : (budget : ℕ) (left₀ : Option (List ℕ)) (before now : ℕ) (p p' : ReaderState) (l : Layout) (m : Moment)
    → p.rest ≡ left₀ → p.room ≡ budget → p.lines ≡ 0 → TakesHead p p' l → before ≤ now → m.layout ≡ l → spec_of m ≡ at_first l.version → IsUnderWay budget left₀ before p' now m 0
starts_on budget left₀ before now p p' l m rest room lines t le laid first =
    let bytes : Consumes left₀ p'.rest (head_text l) = rw rest at t.passes.bytes in
    let whole : prefix_text l [] ≡ head_text l = append-nil (head_text l) in
    let one = first_line l.version in
    let split = Consumes-split left₀ p'.rest one (layout_line l) bytes in
    let size : p'.room + length (head_text l) ≡ budget = t.passes.room ∙ room in
    let sum : length (head_text l) ≡ length one + length (layout_line l) = length-append one (layout_line l) in record {
      events = [];
      phase = t.phase;
      lawful = subst IsLawful (sym t.layout) t.lawful;
      layout = laid ∙ sym t.layout;
      named = tt;
      made = tt;
      run = sym (first ∙ ap (λ (k : Layout). at_first k.version) (sym t.layout));
      counted = refl;
      place = t.place;
      read = rw t.layout (subst (Consumes left₀ p'.rest) (sym whole) bytes);
      room = rw t.layout (subst (λ x. p'.room + length x ≡ budget) (sym whole) size);
      reasons = λ left'' after f h.
          let room₁ = p'.room + length (layout_line l) in
          let laid = after_line (expect.Counts l.version) tt (line.Counts l) (t.lawful, refl) split.0 p'.rest left'' 1 p'.lines room₁ p'.room now now after f split.2 refl (omega (arith, t.passes.lines, lines)) (omega arith) (rw (t.layout, t.place) at h) in
          after_line expect.Head tt (line.Head l.version) tt left₀ split.0 left'' 0 1 budget room₁ before now after f split.1 (omega (arith, size, sum)) (omega arith) le laid;
    }

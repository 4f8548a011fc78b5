-- What holds between two events of a drawing.
use Rattle.std.proofs.Common.{◌≡◌, ℕ, zero, suc, Bool, true, false, cond, ◌+◌, ◌-◌, ◌*◌, ◌%◌, ◌^◌, ◌<◌, ◌≤◌, ◌⊎◌, ⊎_elim, inl, inr, List, [], ◌∷◌, ◌++◌, length, length-append, take, refl, ap, sym, subst, ◌∙◌, append_assoc, append-nil, Some, None, IfSome, arith}
use Rattle.std.specs.Prelude.{◌&&◌, ◌==◌, not, nat_lt, nat_le, if◌then◌else◌}
use Rattle.std.proofs.lemmas.Bool.{cond-true, cond-false, true≢false}
use Rattle.std.proofs.lemmas.Bool.Decides.{nat_tests}
use Rattle.std.proofs.lemmas.List.{take_at}
use Rattle.std.specs.Io.KnownBytes.{Appends}
use Rattle.std.specs.declared.option.Option.{Option}
use Rattle.std.proofs.KnownBytes.{Appends-trans}
use Rattle.firefly_outside.specs.Causes.{AppendsPrefix}
use Rattle.larch_actions.specs.declared.event.Layout.{Layout}
use Rattle.larch_actions.specs.declared.event.Event.{Event}
use Rattle.larch_actions.specs.declared.event.Broken.{Broken}
use Rattle.larch_actions.specs.Actions.{Acts, Fails, at_first}
use Rattle.larch_actions.specs.State.{Moment, spec_of, held, waiting, alerted}
use Rattle.exact_text.specs.declared.fault.TextFault.{TextFault}
use Rattle.exact_text.specs.declared.fault.TextFault.TheVariants as fault
use Rattle.trace_core.specs.ReaderState.{ReaderState}
use Rattle.trace_core.specs.Steps.{TakesHead, TakesEvent, TakesEnd}
use Rattle.trace_core.specs.Whole.{Flows}
use Rattle.trace_core.proofs.Flowing.{Pending, pending_fault}
use Rattle.trace_check.specs.declared.checker.Summary.{Summary}
use Rattle.trace_check.specs.declared.checker.Verdict.TheVariants as verdict
use Rattle.trace_check.specs.Verdicts.{Counts, refusal}
use Rattle.trace_check.proofs.UnderWay.{IsUnderWay, few, starts_on, step_on, fails_on, ends_on, prefix_read}
use Rattle.trace_board.proofs.Extended.{length-extended}
use Rattle.trace_shapes.specs.declared.view.DrawnRange.{DrawnRange}
use Rattle.trace_board.specs.History.{origin_of}
use Rattle.trace_board.specs.Marks.{marks}
use Rattle.trace_board.specs.Tracked.{tracked_since, tracked_after, extended}
use Rattle.trace_shapes.specs.Places.{in_view, column, is_open, band_of}
use Rattle.trace_picture.specs.declared.plan.Page.{Page}
use Rattle.trace_picture.specs.Plan.{no_page, page_of, room_of}
use Rattle.trace_picture.specs.Keeping.{turned, band_steps, drawn_over, fills, added_on, drawn_on, kept_on, noted_on, event_text, event_drawn, event_kept}
use Rattle.trace_picture.specs.Shown.{Drawn, nothing_drawn, has_arrows, opened, shown_by, shown_since, drawn_after, drawn_since}
use Rattle.trace_picture.specs.Bands.{opening, event_shapes, closing_after, step_text}
use Rattle.trace_picture.proofs.Banding.{steps_none, over_none}
use Rattle.trace_picture.proofs.Paging.{at_most_is, is_seen, kept_page, kept_steps, less_is, new_page, open_view, over_is, page_cut, prefix-none, second_false, seen_is, shut_view, steps_cut, within}
use Rattle.trace_picture.specs.Verdicts.{cut_words}
use Rattle.trace_picture.specs.Picture.{head_text, page_at, steps_text, page_since, page_for, drawn_at, prefix_picture, ending, failed_ending, failed_picture, cut_picture}
use Rattle.trace_picture.specs.Rings.{IsEnding}
use Rattle.trace_picture.specs.Drawn.{GotCut, IsDrawn, IsAPicture, IsCutOff}

-- of these events all but those that are kept were drawn, and these are of one band
pub record AreDrawn (l : Layout) (v : DrawnRange) (events : List Event) (reported₀ reported : Option (List ℕ)) (kept : List ℕ) (k : Drawn) (es : List Event) : Type 0 where
  pub done : List Event
  pub split : events ≡ done ++ es
  pub shut : is_open v (length done) ≡ false
  pub started : 0 < length es → (in_view v (length done) ≡ true) × (is_open v (length done + length es) ≡ true)
  pub few_kept : length es < 50
  pub low : k.page.next ≤ 65536 * length done
  pub flows : Pending reported₀ reported kept (prefix_picture l v [] done) []
  pub kept_is : k ≡ drawn_at l v [] done

-- so far these events were read
pub record IsDrawing (budget : ℕ) (left₀ : Option (List ℕ)) (before : ℕ) (st : ReaderState) (now : ℕ) (m : Moment) (count : ℕ) (v : DrawnRange) (reported₀ reported : Option (List ℕ)) (kept : List ℕ) (k : Drawn) (es : List Event) : Type 0 where
  pub under_way : IsUnderWay budget left₀ before st now m count
  pub drawn : AreDrawn st.layout v under_way.events reported₀ reported kept k es

-- all events that were read were drawn, with the page for one that fails after them
pub record IsWhole (budget : ℕ) (left₀ : Option (List ℕ)) (before : ℕ) (st : ReaderState) (now : ℕ) (m : Moment) (count : ℕ) (v : DrawnRange) (reported₀ reported : Option (List ℕ)) (kept : List ℕ) (k : Drawn) (after : List Event) : Type 0 where
  pub under_way : IsUnderWay budget left₀ before st now m count
  pub flows : Pending reported₀ reported kept (prefix_picture st.layout v after under_way.events) []
  pub kept_is : k ≡ drawn_at st.layout v after under_way.events

-- more was put after what is held back
pub pending_text : (first now : Option (List ℕ)) (kept kept' all text : List ℕ) → Pending first now kept all [] → kept' ≡ kept ++ text → Pending first now kept' (all ++ text) []
pending_text first now kept kept' all text p e =
    (p.0, p.1, ap (λ x. x ++ text) (p.2 ∙ append-nil (p.0 ++ kept)) ∙ append_assoc p.0 kept text ∙ ap (λ x. p.0 ++ x) (sym e) ∙ sym (append-nil (p.0 ++ kept')))

-- all that is held back is sent
pending_sent : (first now later : Option (List ℕ)) (kept all : List ℕ) → Pending first now kept all [] → Appends now later kept → Appends first later all
pending_sent first now later kept all p a = subst (Appends first later) (sym (p.2 ∙ append-nil (p.0 ++ kept))) (Appends-trans first now later p.0 kept p.1 a)

pub nothing_sent : (h : Option (List ℕ)) → Appends h h []
nothing_sent None = tt
nothing_sent (Some xs) = sym (append-nil xs)

pub none_open : (v : DrawnRange) → is_open v 0 ≡ false
none_open v =
    let none : (0 - v.first) % 50 ≡ 0 = omega arith in
    second_false (nat_lt 0 v.end) (not ((0 - v.first) % 50 == 0)) (ap (λ c. not (c == 0)) none)

zero_plus : (n : ℕ) → 0 + n ≡ n
zero_plus n = omega arith

unfoldable pub drawing_starts : (budget : ℕ) (left₀ : Option (List ℕ)) (before now : ℕ) (p p' : ReaderState) (l : Layout) (m : Moment) (v : DrawnRange) (reported : Option (List ℕ)) (kept : List ℕ) (k : Drawn) (es : List Event)
    → p.rest ≡ left₀ → p.room ≡ budget → p.lines ≡ 0 → TakesHead p p' l → before ≤ now → m.layout ≡ l → spec_of m ≡ at_first l.version → kept ≡ [] ++ head_text l → k ≡ nothing_drawn → es ≡ []
    → IsDrawing budget left₀ before p' now m 0 v reported reported kept k es
unfolding starts_on page_since
drawing_starts budget left₀ before now p p' l m v reported kept k es rest room lines t le laid first text none empty =
    let all : prefix_picture p'.layout v [] [] ≡ ([] ++ kept) ++ [] = prefix-none p'.layout v ∙ ap head_text t.layout ∙ sym text ∙ sym (append-nil kept) in
    let size : length es ≡ 0 = ap length empty in
    record {
      under_way = starts_on budget left₀ before now p p' l m rest room lines t le laid first;
      drawn = record {
        done = [];
        split = sym empty;
        shut = none_open v;
        started = λ some. absurd (omega (arith, some, size));
        few_kept = omega (arith, size);
        low = let low : k.page.next ≡ 0 = ap (λ (d : Drawn). d.page.next) none in omega (arith, low);
        flows = ([], nothing_sent reported, all);
        kept_is = none;
      };
    }

pub extended-append : (past xs ys : List Event) → extended past (xs ++ ys) ≡ extended (extended past xs) ys
extended-append past [] ys = refl
extended-append past (x ∷ xs) ys = extended-append (x ∷ past) xs ys

-- the whole of the first events and of others that are drawn after them
prefix_cut : (l : Layout) (v : DrawnRange) (after done es : List Event) → is_open v (length done) ≡ false
    → prefix_picture l v after (done ++ es) ≡ prefix_picture l v [] done ++ steps_text l v after (page_since l v [] no_page [] done) (extended [] done) es
unfolding prefix_picture
prefix_cut l v after done es shut =
    ap (λ t. head_text l ++ t) (steps_cut l v after no_page [] done es (ap (is_open v) (zero_plus (length done)) ∙ shut))
    ∙ sym (append_assoc (head_text l) (steps_text l v [] no_page [] done) (steps_text l v after (page_since l v [] no_page [] done) (extended [] done) es))

-- and what was drawn then
drawn_cut : (l : Layout) (v : DrawnRange) (after done es : List Event) → is_open v (length done) ≡ false
    → drawn_at l v after (done ++ es) ≡ drawn_since l v (page_for l v (extended (extended [] done) es) after (page_since l v after (page_since l v [] no_page [] done) (extended [] done) es)) (extended (extended [] done) es)
drawn_cut l v after done es shut =
    (λ i. drawn_since l v (page_for l v (extended-append [] done es i) after (page_cut l v after no_page [] done es (ap (is_open v) (zero_plus (length done)) ∙ shut) i)) (extended-append [] done es i))

module _ (l : Layout) (v : DrawnRange) (after past : List Event) (p : Page) (shut : is_open v (length past) ≡ false) where
  first_column : in_view v (length past) ≡ true → column v (length past) ≡ 0
  first_column seen =
      let s = seen_is v (length past) seen in
      ⊎_elim (λ (a : v.end ≤ length past). absurd (omega (arith, a, s.1))) (λ (b : (length past - v.first) % 50 ≡ 0). b) (shut_view v (length past) shut)

  -- a band's events as they are kept, of which one more may fail
  kept_drawn : (es : List Event) → (0 < length (es ++ after) → in_view v (length past) ≡ true) → length (es ++ after) ≤ room_of v (length past)
      → steps_text l v after p past es ≡ band_steps l v (length past) (turned l (es ++ after) (drawn_since l v p past)) es
  unfolding steps_text band_steps
  kept_drawn [] seen fits = refl
  kept_drawn (e ∷ es) seen fits = let s = seen (omega arith) in kept_steps l v after past p s (first_column s) (e ∷ es) fits

-- the page of the band, and of an event that fails after these
page_kept : (l : Layout) (v : DrawnRange) (after past : List Event) (p : Page) → is_open v (length past) ≡ false → (es : List Event)
    → (0 < length (es ++ after) → in_view v (length past) ≡ true) → length (es ++ after) ≤ room_of v (length past)
    → page_for l v (extended past es) after (page_since l v after p past es) ≡ (turned l (es ++ after) (drawn_since l v p past)).page
unfolding page_since
page_kept l v [] past p shut [] seen fits = refl
page_kept l v (x ∷ after) past p shut [] seen fits = let s = seen (omega arith) in new_page l v past x after p s (first_column l v after past p shut s) fits
page_kept l v [] past p shut (e ∷ es) seen fits = let s = seen (omega arith) in kept_page l v [] past p s (first_column l v [] past p shut s) e es fits
page_kept l v (x ∷ after) past p shut (e ∷ es) seen fits =
    let s = seen (omega arith) in
    let first = first_column l v (x ∷ after) past p shut s in
    let size = length-extended past (e ∷ es) in
    let few : length (e ∷ es) < 50 = omega (arith, fits, length-append (e ∷ es) (x ∷ after)) in
    let view = seen_is v (length past) s in
    let later : 0 < column v (length (extended past (e ∷ es))) = omega (arith, size, few, first, view.0) in
    within l v (extended past (e ∷ es)) (x ∷ after) (page_since l v (x ∷ after) p past (e ∷ es)) later ∙ kept_page l v (x ∷ after) past p s first e es fits

turned_since : (l : Layout) (v : DrawnRange) (p : Page) (past es : List Event) → turned l es (drawn_since l v p past) ≡ drawn_since l v (turned l es (drawn_since l v p past)).page past
turned_since l v p past [] = refl
turned_since l v p past (e ∷ es) = refl

-- A band that is drawn at once adds what its events add in order.
module _ (l : Layout) (v : DrawnRange) (after done es : List Event) (shut : is_open v (length done) ≡ false) (seen : 0 < length (es ++ after) → in_view v (length done) ≡ true)
    (fits : length (es ++ after) ≤ room_of v (length done)) (start : ℕ) (start_is : start ≡ length done) where
  abbrev past : List Event
  past = extended [] done

  abbrev own : Page
  own = page_since l v [] no_page [] done

  size : length past ≡ length done
  size = omega (arith, length-extended [] done)

  shut_here : is_open v (length past) ≡ false
  shut_here = ap (is_open v) size ∙ shut

  seen_here : 0 < length (es ++ after) → in_view v (length past) ≡ true
  seen_here some = ap (in_view v) size ∙ seen some

  fits_here : length (es ++ after) ≤ room_of v (length past)
  fits_here = omega (arith, fits, size)

  begin : length past ≡ start
  begin = size ∙ sym start_is

  pub band_text : prefix_picture l v after (done ++ es) ≡ prefix_picture l v [] done ++ band_steps l v start (turned l (es ++ after) (drawn_at l v [] done)) es
  band_text =
      prefix_cut l v after done es shut
      ∙ ap (λ t. prefix_picture l v [] done ++ t) (kept_drawn l v after past own shut_here es seen_here fits_here ∙ ap (λ n. band_steps l v n (turned l (es ++ after) (drawn_at l v [] done)) es) begin)

  pub band_drawn : drawn_at l v after (done ++ es) ≡ drawn_over l v start (turned l (es ++ after) (drawn_at l v [] done)) es
  band_drawn =
      let q = (turned l (es ++ after) (drawn_at l v [] done)).page in
      drawn_cut l v after done es shut
      ∙ ap (λ z. drawn_since l v z (extended past es)) (page_kept l v after past own shut_here es seen_here fits_here)
      ∙ sym (over_is l v q past es)
      ∙ (λ i. drawn_over l v (begin i) (sym (turned_since l v own past (es ++ after)) i) es)

-- the page stays within a band
pub over_page : (l : Layout) (v : DrawnRange) (n : ℕ) (d : Drawn) (es : List Event) → (drawn_over l v n d es).page ≡ d.page
unfolding drawn_over
over_page l v n d [] = refl
over_page l v n d (e ∷ es) = over_page l v (n + 1) (drawn_after l v n e d) es

none_of : (es : List Event) → (0 < length es → ⊥) → es ≡ []
none_of [] h = refl
none_of (e ∷ es) h = absurd (h (omega arith))

fits_room : (v : DrawnRange) (n m : ℕ) → in_view v n ≡ true → column v n ≡ 0 → m < 50 → n + m < v.end → m + 1 ≤ room_of v n
fits_room v n m seen first few near = omega (arith, few, near)

-- an event out of view adds nothing, and is noted
module _ (l : Layout) (v : DrawnRange) (past : List Event) (own : Page) (e : Event) (hidden : in_view v (length past) ≡ false) where
  hidden_page : page_for l v (extended past (e ∷ [])) [] (page_since l v [] own past (e ∷ [])) ≡ page_at l v past ((e ∷ []) ++ []) own
  unfolding page_since
  hidden_page = refl

  hidden_text : steps_text l v [] own past (e ∷ []) ≡ []
  unfolding steps_text step_text
  hidden_text =
      let p = page_at l v past ((e ∷ []) ++ []) own in
      let m = length past in
      let j = tracked_since past in
      append-nil (step_text l v p j m e)
      ∙ cond-false (in_view v m) (opening l v p j m ++ event_shapes v.ordered (band_of l v p.plan m) j m e ++ closing_after l v p.plan (tracked_after m e j) m) [] hidden

  hidden_drawn : noted_on (length past) e (drawn_since l v own past) ≡ drawn_since l v own (e ∷ past)
  hidden_drawn =
      let m = length past in
      let j = tracked_since past in
      let was = shown_since l v past in
      let o = origin_of m e in
      let same : was ≡ shown_since l v (e ∷ past) = sym (cond-false (in_view v m) (shown_by o (marks e) (has_arrows l j o (marks e)) (opened l v j o was)) was hidden) in
      λ i. record { board = tracked_since (e ∷ past); shown = same i; page = own }

no_steps : (l : Layout) (v : DrawnRange) (after before : List Event) (p : Page) → steps_text l v after p before [] ≡ []
unfolding steps_text
no_steps l v after before p = refl

same_since : (l : Layout) (v : DrawnRange) (after before : List Event) (p : Page) → page_since l v after p before [] ≡ p
unfolding page_since
same_since l v after before p = refl

take_of_none : (m : ℕ) → take m (let xs : List Event = [] in xs) ≡ []
take_of_none zero = refl
take_of_none (suc m) = refl

-- one more event
module _ (l : Layout) (v : DrawnRange) (events : List Event) (reported₀ reported : Option (List ℕ)) (kept : List ℕ) (k : Drawn) (es : List Event) (a : AreDrawn l v events reported₀ reported kept k es)
    (n : ℕ) (n_is : n ≡ length events) where
  counted_kept : length a.done + length es ≡ n
  counted_kept = omega (arith, n_is, ap length a.split, length-append a.done es)

  first_seen : in_view v n ≡ true → in_view v (length a.done) ≡ true
  first_seen seen = at es refl
    where
      at : (xs : List Event) → es ≡ xs → in_view v (length a.done) ≡ true
      at [] none = let same : length a.done ≡ n = omega (arith, counted_kept, ap length none) in ap (in_view v) same ∙ seen
      at (x ∷ xs) some = (a.started (omega (arith, ap length some))).0

  all_drawn : in_view v n ≡ false → es ≡ []
  all_drawn out = none_of es (λ some.
      let s = a.started some in
      let first = seen_is v (length a.done) s.0 in
      let last = open_view v (length a.done + length es) s.1 in
      true≢false (sym (is_seen v n (omega (arith, first.0, counted_kept)) (omega (arith, last.0, counted_kept))) ∙ out))

  first_kept : in_view v n ≡ true → column v (length a.done) ≡ 0
  first_kept seen =
      let s = seen_is v (length a.done) (first_seen seen) in
      ⊎_elim (λ (h : v.end ≤ length a.done). absurd (omega (arith, h, s.1))) (λ (h : (length a.done - v.first) % 50 ≡ 0). h) (shut_view v (length a.done) a.shut)

  -- the event that follows has room in the band of those that are kept
  pub kept_fits : in_view v n ≡ true → length es + 1 ≤ room_of v (length a.done)
  kept_fits seen = let s = seen_is v n seen in fits_room v (length a.done) (length es) (first_seen seen) (first_kept seen) a.few_kept (omega (arith, s.1, counted_kept))

  -- those that are kept have
  pub only_fits : length es ≤ room_of v (length a.done)
  only_fits = at es refl
    where
      at : (xs : List Event) → es ≡ xs → length es ≤ room_of v (length a.done)
      at [] none = omega (arith, ap length none)
      at (x ∷ xs) some =
          let s = a.started (omega (arith, ap length some)) in
          let last = open_view v (length a.done + length es) s.1 in
          omega (arith, last.0, a.few_kept)

  module _ (e : Event) (reported' : Option (List ℕ)) (kept' : List ℕ) (k' : Drawn) (es' : List Event)
      (f : Flows reported reported' kept kept' (event_text l v n k es e)) (k_is : k' ≡ event_drawn l v n k es e) (es_is : es' ≡ event_kept v n es e)
      (near : in_view v n ≡ true → fills v n ≡ true → (turned l (es ++ e ∷ []) k).page.next ≤ k.page.next + 65536) where
    abbrev Next : Type 0
    Next = AreDrawn l v (events ++ e ∷ []) reported₀ reported' kept' k' es'

    flowed : (text : List ℕ) → event_text l v n k es e ≡ text → (all : List ℕ) → all ≡ prefix_picture l v [] a.done ++ text → Pending reported₀ reported' kept' all []
    flowed text is all whole =
        let g = subst (Flows reported reported' kept kept') is f in
        let p = a.flows in (
          p.0 ++ g.0,
          Appends-trans reported₀ reported reported' p.0 g.0 p.1 g.1,
          whole ∙ ap (λ x. x ++ text) (p.2 ∙ append-nil (p.0 ++ kept)) ∙ append_assoc p.0 kept text ∙ ap (λ x. p.0 ++ x) (sym g.2) ∙ sym (append_assoc p.0 g.0 kept') ∙ sym (append-nil ((p.0 ++ g.0) ++ kept')),
        )

    -- out of view
    noted : in_view v n ≡ false → Next
    noted out =
        let none = all_drawn out in
        let size : length a.done ≡ n = omega (arith, counted_kept, ap length none) in
        let past = extended [] a.done in
        let own = page_since l v [] no_page [] a.done in
        let long : length past ≡ n = omega (arith, size, length-extended [] a.done) in
        let hidden : in_view v (length past) ≡ false = ap (in_view v) long ∙ out in
        let stays : page_at l v past ((e ∷ []) ++ []) own ≡ own =
        cond-false (in_view v (length past) && column v (length past) == 0) (page_of l (tracked_since past) (take (room_of v (length past)) ((e ∷ []) ++ [])) own.next) own (ap (λ b. b && column v (length past) == 0) hidden)
        in
        let text = hidden_text l v past own e hidden in
        record {
          done = a.done ++ e ∷ [];
          split = ap (λ x. x ++ e ∷ []) (a.split ∙ ap (λ x. a.done ++ x) none ∙ append-nil a.done) ∙ sym (append-nil (a.done ++ e ∷ [])) ∙ ap (λ x. (a.done ++ e ∷ []) ++ x) (sym gone);
          shut = past_shut (omega (arith, size, length-append a.done (e ∷ [])));
          started = λ some. absurd (omega (arith, some, ap length gone));
          few_kept = omega (arith, ap length gone);
          low = omega (arith, a.low, ap (λ (d : Drawn). d.page.next) kept_was, length-append a.done (e ∷ []));
          flows = flowed [] (cond-false (in_view v n) (added_on l v n k (es ++ e ∷ [])) [] out) (prefix_picture l v [] (a.done ++ e ∷ []))
              (prefix_cut l v [] a.done (e ∷ []) a.shut ∙ ap (λ t. prefix_picture l v [] a.done ++ t) text);
          kept_is = kept_was ∙ (λ i. noted_on (sym long i) e (a.kept_is i)) ∙ hidden_drawn l v past own e hidden
              ∙ ap (λ z. drawn_since l v z (e ∷ past)) (sym stays)
              ∙ sym (drawn_cut l v [] a.done (e ∷ []) a.shut ∙ ap (λ z. drawn_since l v z (e ∷ past)) (hidden_page l v past own e hidden));
        }
      where
        gone : es' ≡ []
        gone = es_is ∙ cond-false (in_view v n) (kept_on v n (es ++ e ∷ [])) es out ∙ all_drawn out

        kept_was : k' ≡ noted_on n e k
        kept_was = k_is ∙ cond-false (in_view v n) (drawn_on l v n k (es ++ e ∷ [])) (noted_on n e k) out

        above : (i j : ℕ) → nat_le i j ≡ false → j + 1 ≤ i
        above i j h = grind (arith, nat_tests)

        before_first : (b : Bool) → nat_le v.first n ≡ b → n < v.end → n + 1 ≤ v.first
        before_first true h lt = absurd (true≢false (sym (is_seen v n (at_most_is v.first n h) lt) ∙ out))
        before_first false h lt = above v.first n h

        closed : (b : Bool) → nat_lt (n + 1) v.end ≡ b → is_open v (n + 1) ≡ false
        closed false h = ap (λ b. b && not ((n + 1 - v.first) % 50 == 0)) h
        closed true h =
            let lt = less_is (n + 1) v.end h in
            let early : n + 1 ≤ v.first = before_first (nat_le v.first n) refl (omega (arith, lt)) in
            let zero_there : (n + 1 - v.first) % 50 ≡ 0 = omega (arith, early) in
            second_false (nat_lt (n + 1) v.end) (not ((n + 1 - v.first) % 50 == 0)) (ap (λ c. not (c == 0)) zero_there)

        past_shut : length (a.done ++ e ∷ []) ≡ n + 1 → is_open v (length (a.done ++ e ∷ [])) ≡ false
        past_shut size = ap (is_open v) size ∙ closed (nat_lt (n + 1) v.end) refl

    -- in view, and its band goes on
    held_back : in_view v n ≡ true → is_open v (n + 1) ≡ true → Next
    held_back seen goes_on =
        let filled : fills v n ≡ false = ap (λ b. cond b false true) goes_on in
        let kept_now : es' ≡ es ++ e ∷ [] = es_is ∙ cond-true (in_view v n) (kept_on v n (es ++ e ∷ [])) es seen ∙ cond-false (fills v n) [] (es ++ e ∷ []) filled in
        let same : k' ≡ k =
        k_is ∙ cond-true (in_view v n) (drawn_on l v n k (es ++ e ∷ [])) (noted_on n e k) seen
        ∙ cond-false (fills v n) (drawn_over l v (n + 1 - length (es ++ e ∷ [])) (turned l (es ++ e ∷ []) k) (es ++ e ∷ [])) k filled
        in
        let no_text : event_text l v n k es e ≡ [] =
        cond-true (in_view v n) (added_on l v n k (es ++ e ∷ [])) [] seen
        ∙ cond-false (fills v n) (band_steps l v (n + 1 - length (es ++ e ∷ [])) (turned l (es ++ e ∷ []) k) (es ++ e ∷ [])) [] filled
        in
        let size : length es' ≡ length es + 1 = omega (arith, ap length kept_now, length-append es (e ∷ [])) in
        let last = open_view v (n + 1) goes_on in
        let first = seen_is v (length a.done) (first_seen seen) in
        record {
          done = a.done;
          split = ap (λ x. x ++ e ∷ []) a.split ∙ append_assoc a.done es (e ∷ []) ∙ ap (λ x. a.done ++ x) (sym kept_now);
          shut = a.shut;
          started = λ some. (first_seen seen, ap (is_open v) (let there : length a.done + length es' ≡ n + 1 = omega (arith, size, counted_kept) in there) ∙ goes_on);
          few_kept = still_few (first_kept seen) first.0 last.1 size;
          low = omega (arith, a.low, ap (λ (d : Drawn). d.page.next) same);
          flows = flowed [] no_text (prefix_picture l v [] a.done) (sym (append-nil (prefix_picture l v [] a.done)));
          kept_is = same ∙ a.kept_is;
        }
      where
        still_few : column v (length a.done) ≡ 0 → v.first ≤ length a.done → 0 < (n + 1 - v.first) % 50 → length es' ≡ length es + 1 → length es' < 50
        still_few first from more size = omega (arith, first, from, more, size, counted_kept, a.few_kept)

    -- in view, and its band is full
    filled : in_view v n ≡ true → is_open v (n + 1) ≡ false → Next
    filled seen full =
        let all = es ++ e ∷ [] in
        let yes : fills v n ≡ true = ap (λ b. cond b false true) full in
        let start = n + 1 - length all in
        let long : length all ≡ length es + 1 = length-append es (e ∷ []) in
        let begin : start ≡ length a.done = omega (arith, long, counted_kept) in
        let d = drawn_at l v [] a.done in
        let gone : es' ≡ [] = es_is ∙ cond-true (in_view v n) (kept_on v n all) es seen ∙ cond-true (fills v n) [] all yes in
        let now : k' ≡ drawn_over l v start (turned l all k) all =
        k_is ∙ cond-true (in_view v n) (drawn_on l v n k all) (noted_on n e k) seen ∙ cond-true (fills v n) (drawn_over l v start (turned l all k) all) k yes
        in
        let text : event_text l v n k es e ≡ band_steps l v start (turned l all d) all =
        cond-true (in_view v n) (added_on l v n k all) [] seen ∙ cond-true (fills v n) (band_steps l v start (turned l all k) all) [] yes
        ∙ ap (λ z. band_steps l v start (turned l all z) all) a.kept_is
        in
        let same : all ++ [] ≡ all = append-nil all in
        let fits : length (all ++ []) ≤ room_of v (length a.done) = omega (arith, ap length same, long, kept_fits seen) in
        let whole = band_text l v [] a.done all a.shut (λ some. first_seen seen) fits start begin in
        let after = band_drawn l v [] a.done all a.shut (λ some. first_seen seen) fits start begin in
        record {
          done = a.done ++ all;
          split = ap (λ x. x ++ e ∷ []) a.split ∙ append_assoc a.done es (e ∷ []) ∙ sym (append-nil (a.done ++ all)) ∙ ap (λ x. (a.done ++ all) ++ x) (sym gone);
          shut = ap (is_open v) (let there : length (a.done ++ all) ≡ n + 1 = omega (arith, length-append a.done all, long, counted_kept) in there) ∙ full;
          started = λ some. absurd (omega (arith, some, ap length gone));
          few_kept = omega (arith, ap length gone);
          low = omega (arith, a.low, near seen yes, ap (λ (d : Drawn). d.page.next) now, ap (λ (q : Page). q.next) (over_page l v start (turned l all k) all), length-append a.done all, long);
          flows = flowed (band_steps l v start (turned l all d) all) text (prefix_picture l v [] (a.done ++ all))
              (whole ∙ ap (λ x. prefix_picture l v [] a.done ++ band_steps l v start (turned l x d) all) same);
          kept_is = now ∙ ap (λ z. drawn_over l v start (turned l all z) all) a.kept_is ∙ sym (after ∙ ap (λ x. drawn_over l v start (turned l x d) all) same);
        }

    pub next_drawn : Next
    next_drawn = at (in_view v n) (is_open v (n + 1)) refl refl
      where
        at : (b c : Bool) → in_view v n ≡ b → is_open v (n + 1) ≡ c → Next
        at false c out x = noted out
        at true true seen goes_on = held_back seen goes_on
        at true false seen full = filled seen full

  -- what the event adds is at the front of the rest of a picture
  module _ (e : Event) where
    abbrev rest_of : List ℕ
    rest_of = steps_text l v [] (page_since l v [] no_page [] a.done) (extended [] a.done) (es ++ e ∷ [])

    pub event_in : (tail : List ℕ) × (prefix_picture l v [] (events ++ e ∷ []) ≡ (prefix_picture l v [] a.done ++ event_text l v n k es e) ++ tail)
    event_in = at (in_view v n) (is_open v (n + 1)) refl refl
      where
        all : List Event
        all = es ++ e ∷ []

        split_all : events ++ e ∷ [] ≡ a.done ++ all
        split_all = ap (λ x. x ++ e ∷ []) a.split ∙ append_assoc a.done es (e ∷ [])

        whole : prefix_picture l v [] (events ++ e ∷ []) ≡ prefix_picture l v [] a.done ++ rest_of
        whole = ap (prefix_picture l v []) split_all ∙ prefix_cut l v [] a.done all a.shut

        no_text : event_text l v n k es e ≡ [] → (tail : List ℕ) × (prefix_picture l v [] (events ++ e ∷ []) ≡ (prefix_picture l v [] a.done ++ event_text l v n k es e) ++ tail)
        no_text none = (rest_of, whole ∙ ap (λ x. x ++ rest_of) (sym (ap (λ x. prefix_picture l v [] a.done ++ x) none ∙ append-nil (prefix_picture l v [] a.done))))

        at : (b c : Bool) → in_view v n ≡ b → is_open v (n + 1) ≡ c → (tail : List ℕ) × (prefix_picture l v [] (events ++ e ∷ []) ≡ (prefix_picture l v [] a.done ++ event_text l v n k es e) ++ tail)
        at false c out x = no_text (cond-false (in_view v n) (added_on l v n k all) [] out)
        at true true seen goes_on =
            no_text (cond-true (in_view v n) (added_on l v n k all) [] seen
            ∙ cond-false (fills v n) (band_steps l v (n + 1 - length all) (turned l all k) all) [] (ap (λ b. cond b false true) goes_on))
        at true false seen full =
            let start = n + 1 - length all in
            let d = drawn_at l v [] a.done in
            let long : length all ≡ length es + 1 = length-append es (e ∷ []) in
            let begin : start ≡ length a.done = omega (arith, long, counted_kept) in
            let same : all ++ [] ≡ all = append-nil all in
            let fits : length (all ++ []) ≤ room_of v (length a.done) = omega (arith, ap length same, long, kept_fits seen) in
            let text : event_text l v n k es e ≡ band_steps l v start (turned l all d) all =
            cond-true (in_view v n) (added_on l v n k all) [] seen ∙ cond-true (fills v n) (band_steps l v start (turned l all k) all) [] (ap (λ b. cond b false true) full)
            ∙ ap (λ z. band_steps l v start (turned l all z) all) a.kept_is
            in (
              [],
              ap (prefix_picture l v []) split_all ∙ band_text l v [] a.done all a.shut (λ some. first_seen seen) fits start begin
                  ∙ ap (λ x. prefix_picture l v [] a.done ++ band_steps l v start (turned l x d) all) same
                  ∙ ap (λ x. prefix_picture l v [] a.done ++ x) (sym text) ∙ sym (append-nil (prefix_picture l v [] a.done ++ event_text l v n k es e)),
            )

  -- what is left is drawn at the end
  module _ (more : List Event) (c start : ℕ) (c_is : c ≡ length es) (start_is : start ≡ n - c) where
    abbrev Draws : List Event → Type 0
    Draws after = (prefix_picture l v after events ≡ prefix_picture l v [] a.done ++ band_steps l v start (turned l more k) (take c more))
        × (drawn_at l v after events ≡ drawn_over l v start (turned l more k) (take c more))

    drawn_with : (after : List Event) → more ≡ es ++ after → (0 < length (es ++ after) → in_view v (length a.done) ≡ true) → length (es ++ after) ≤ room_of v (length a.done) → Draws after
    drawn_with after same seen fits =
        let begin : start ≡ length a.done = omega (arith, start_is, c_is, counted_kept) in
        let front : take c more ≡ es = ap (take c) same ∙ take_at es after c (sym c_is) in
        let back : k ≡ drawn_at l v [] a.done = a.kept_is in (
          ap (prefix_picture l v after) a.split ∙ band_text l v after a.done es a.shut seen fits start begin
              ∙ sym (λ i. prefix_picture l v [] a.done ++ band_steps l v start (turned l (same i) (back i)) (front i)),
          ap (drawn_at l v after) a.split ∙ band_drawn l v after a.done es a.shut seen fits start begin
              ∙ sym (λ i. drawn_over l v start (turned l (same i) (back i)) (front i)),
        )

    pub draws_all : more ≡ es → Draws []
    draws_all same =
        let none : es ++ [] ≡ es = append-nil es in
        drawn_with [] (same ∙ sym none) (λ some. (a.started (omega (arith, some, ap length none))).0) (omega (arith, ap length none, only_fits))

    pub draws_failing : (e : Event) → more ≡ (if in_view v n then es ++ e ∷ [] else es) → Draws (e ∷ [])
    draws_failing e same = at (in_view v n) refl
      where
        hidden : in_view v n ≡ false → more ≡ [] → Draws (e ∷ [])
        hidden out empty =
            let none = all_drawn out in
            let past = extended [] a.done in
            let own = page_since l v [] no_page [] a.done in
            let events_are : events ≡ a.done ++ [] = a.split ∙ ap (λ x. a.done ++ x) none in
            let long : length past ≡ n = omega (arith, counted_kept, ap length none, length-extended [] a.done) in
            let unseen : in_view v (length past) ≡ false = ap (in_view v) long ∙ out in
            let stays : page_at l v past (e ∷ []) own ≡ own =
            cond-false (in_view v (length past) && column v (length past) == 0) (page_of l (tracked_since past) (take (room_of v (length past)) (e ∷ [])) own.next) own (ap (λ b. b && column v (length past) == 0) unseen)
            in
            let front : take c more ≡ [] = ap (take c) empty ∙ take_of_none c in (
              ap (prefix_picture l v (e ∷ [])) events_are ∙ prefix_cut l v (e ∷ []) a.done [] a.shut ∙ ap (λ t. prefix_picture l v [] a.done ++ t) (no_steps l v (e ∷ []) past own)
                  ∙ sym (λ i. prefix_picture l v [] a.done ++ steps_none l v start (turned l more k) (take c more) front i),
              ap (drawn_at l v (e ∷ [])) events_are ∙ drawn_cut l v (e ∷ []) a.done [] a.shut ∙ ap (λ z. drawn_since l v (page_at l v past (e ∷ []) z) past) (same_since l v (e ∷ []) past own) ∙ ap (λ z. drawn_since l v z past) stays
                  ∙ sym a.kept_is ∙ sym (over_none l v start (turned l more k) (take c more) front ∙ ap (λ x. turned l x k) empty),
            )

        at : (b : Bool) → in_view v n ≡ b → Draws (e ∷ [])
        at true seen =
            let both : length (es ++ e ∷ []) ≡ length es + 1 = length-append es (e ∷ []) in
            drawn_with (e ∷ []) (same ∙ cond-true (in_view v n) (es ++ e ∷ []) es seen) (λ some. first_seen seen) (omega (arith, both, kept_fits seen))
        at false out = hidden out (same ∙ cond-false (in_view v n) (es ++ e ∷ []) es out ∙ all_drawn out)

if_some : (left : Option (List ℕ)) (Holds : List ℕ → Type 0) → ((bytes : List ℕ) → left ≡ Some bytes → Holds bytes) → IfSome left Holds
if_some None Holds h = tt
if_some (Some bytes) Holds h = h bytes refl

module _ (budget : ℕ) (left₀ : Option (List ℕ)) (before now : ℕ) (p : ReaderState) (m : Moment) (count : ℕ) (v : DrawnRange) (reported₀ reported : Option (List ℕ)) (kept : List ℕ) (k : Drawn) (es : List Event)
    (d : IsDrawing budget left₀ before p now m count v reported₀ reported kept k es) where
  pub drawing_few : count ≤ budget
  drawing_few = few budget left₀ before p now m count d.under_way

  pub drawing_low : k.page.next ≤ 65536 * count
  drawing_low = omega (arith, d.drawn.low, d.under_way.counted, ap length d.drawn.split, length-append d.drawn.done es)

  pub drawing_kept : length es ≤ count
  drawing_kept = omega (arith, d.under_way.counted, ap length d.drawn.split, length-append d.drawn.done es)

  unfoldable pub drawing_steps : (now' : ℕ) (p' : ReaderState) (m' : Moment) (e : Event) (reported' : Option (List ℕ)) (kept' : List ℕ) (k' : Drawn) (es' : List Event) (l : Layout) → l ≡ p.layout → budget < 2 ^ 64 - 1 → TakesEvent p p' e → Acts (spec_of m) e (spec_of m') → m'.layout ≡ m.layout → now ≤ now'
      → Flows reported reported' kept kept' (event_text l v count k es e) → k' ≡ event_drawn l v count k es e → es' ≡ event_kept v count es e
      → (in_view v count ≡ true → fills v count ≡ true → (turned l (es ++ e ∷ []) k).page.next ≤ k.page.next + 65536)
      → IsDrawing budget left₀ before p' now' m' (count + 1) v reported₀ reported' kept' k' es'
  unfolding step_on
  drawing_steps now' p' m' e reported' kept' k' es' l same_l fits t a same le f k_is es_is near =
      let here = subst (λ x. AreDrawn x v d.under_way.events reported₀ reported kept k es) (sym same_l) d.drawn in
      let next = next_drawn l v d.under_way.events reported₀ reported kept k es here count (sym d.under_way.counted) e reported' kept' k' es' f k_is es_is near in
      record {
        under_way = step_on budget left₀ before now now' p p' m m' count e fits d.under_way t a same le;
        drawn = subst (λ x. AreDrawn x v (d.under_way.events ++ e ∷ []) reported₀ reported' kept' k' es') (same_l ∙ sym t.layout) next;
      }

  module _ (reported' : Option (List ℕ)) (l : Layout) (same_l : l ≡ p.layout) where
    here_drawn : AreDrawn l v d.under_way.events reported₀ reported kept k es
    here_drawn = subst (λ x. AreDrawn x v d.under_way.events reported₀ reported kept k es) (sym same_l) d.drawn

    -- the sink failed while a band was drawn
    pub step_cut : (now' : ℕ) (p' : ReaderState) (m' : Moment) (e : Event) → budget < 2 ^ 64 - 1 → TakesEvent p p' e → Acts (spec_of m) e (spec_of m') → m'.layout ≡ m.layout → now ≤ now'
        → AppendsPrefix reported reported' (kept ++ event_text l v count k es e) → IsCutOff budget v left₀ reported₀ reported'
    unfolding step_on cut_picture prefix_read
    step_cut now' p' m' e fits t a same le f =
        let events = d.under_way.events in
        let u = step_on budget left₀ before now now' p p' m m' count e fits d.under_way t a same le in
        let all = events ++ e ∷ [] in
        let inside = event_in l v events reported₀ reported kept k es here_drawn count (sym d.under_way.counted) e in
        let ends = ending l v (drawn_at l v [] all) (length all) cut_words None in
        let text = event_text l v count k es e in
        let flows = here_drawn.flows in
        let whole : cut_picture l v all ≡ (flows.0 ++ (kept ++ text)) ++ (inside.0 ++ ends) =
        ap (λ x. x ++ ends) (inside.1 ∙ ap (λ x. (x ++ text) ++ inside.0) (flows.2 ∙ append-nil (flows.0 ++ kept)) ∙ ap (λ x. x ++ inside.0) (append_assoc flows.0 kept text))
        ∙ append_assoc (flows.0 ++ (kept ++ text)) inside.0 ends
        in
        let prefix : AppendsPrefix reported₀ reported' (cut_picture l v all) = pending_fault reported₀ reported reported' (kept ++ text) (cut_picture l v all) (inside.0 ++ ends) (flows.0, flows.1, whole) f in
        let laid : l ≡ p'.layout = same_l ∙ sym t.layout in
        if_some left₀ _ (λ bytes reported_is. (prefix_read budget left₀ before now' p' m' (count + 1) u bytes reported_is, cut_picture p'.layout v all, inr (inl refl), subst (λ x. AppendsPrefix reported₀ reported' (cut_picture x v all)) laid prefix))

    module _ (kept' : List ℕ) (k' : Drawn) (more : List Event) (c start : ℕ) (c_is : c ≡ length es) (start_is : start ≡ count - c) where
      abbrev steps : List ℕ
      steps = band_steps l v start (turned l more k) (take c more)

      whole_flow : (after : List Event) → Draws l v d.under_way.events reported₀ reported kept k es here_drawn count (sym d.under_way.counted) more c start c_is start_is after
          → (told : Option (List ℕ)) → Flows reported told kept kept' steps → k' ≡ drawn_over l v start (turned l more k) (take c more)
          → Pending reported₀ told kept' (prefix_picture p.layout v after d.under_way.events) [] × (k' ≡ drawn_at p.layout v after d.under_way.events)
      whole_flow after w told f drawn_is =
          let q = here_drawn.flows in
          let all = prefix_picture l v after d.under_way.events in
          let flows : Pending reported₀ told kept' all [] = (
            q.0 ++ f.0,
            Appends-trans reported₀ reported told q.0 f.0 q.1 f.1,
            w.0 ∙ ap (λ x. x ++ steps) (q.2 ∙ append-nil (q.0 ++ kept)) ∙ append_assoc q.0 kept steps ∙ ap (λ x. q.0 ++ x) (sym f.2) ∙ sym (append_assoc q.0 f.0 kept') ∙ sym (append-nil ((q.0 ++ f.0) ++ kept')),
          ) in
          (subst (λ x. Pending reported₀ told kept' (prefix_picture x v after d.under_way.events) []) same_l flows, drawn_is ∙ sym w.1 ∙ ap (λ x. drawn_at x v after d.under_way.events) same_l)

      pub all_whole : more ≡ es → (told : Option (List ℕ)) → Flows reported told kept kept' steps → k' ≡ drawn_over l v start (turned l more k) (take c more) → Pending reported₀ told kept' (prefix_picture p.layout v [] d.under_way.events) [] × (k' ≡ drawn_at p.layout v [] d.under_way.events)
      all_whole same = whole_flow [] (draws_all l v d.under_way.events reported₀ reported kept k es here_drawn count (sym d.under_way.counted) more c start c_is start_is same)

      pub failing_whole : (e : Event) → more ≡ (if in_view v count then es ++ e ∷ [] else es) → (told : Option (List ℕ)) → Flows reported told kept kept' steps → k' ≡ drawn_over l v start (turned l more k) (take c more) → Pending reported₀ told kept' (prefix_picture p.layout v (e ∷ []) d.under_way.events) [] × (k' ≡ drawn_at p.layout v (e ∷ []) d.under_way.events)
      failing_whole e same = whole_flow (e ∷ []) (draws_failing l v d.under_way.events reported₀ reported kept k es here_drawn count (sym d.under_way.counted) more c start c_is start_is e same)

-- nothing was sent, and more is held back
pub held_flow : (h : Option (List ℕ)) (kept text : List ℕ) → Flows h h kept (kept ++ text) text
held_flow h kept text = ([], nothing_sent h, refl)

-- the verdict on a text that can't be read, with what was drawn until then
pub refused_drawn : (budget : ℕ) (v : DrawnRange) (left₀ reported₀ reported' : Option (List ℕ)) (f : TextFault) → IfSome left₀ (λ bytes. GotCut budget v bytes reported₀ reported') → IsDrawn budget v left₀ reported₀ reported' (refusal f)
refused_drawn budget v None reported₀ reported' f h = tt
refused_drawn budget v (Some bytes) reported₀ reported' fault.Memory h = h
refused_drawn budget v (Some bytes) reported₀ reported' (fault.BadLine k) h = h
refused_drawn budget v (Some bytes) reported₀ reported' fault.TooLong h = h
refused_drawn budget v (Some bytes) reported₀ reported' fault.Read h = h

-- without a head nothing is drawn
pub headless_drawn : (budget : ℕ) (v : DrawnRange) (left₀ reported : Option (List ℕ)) (f : TextFault) → IsDrawn budget v left₀ reported reported (refusal f)
headless_drawn budget v left₀ reported f = refused_drawn budget v left₀ reported reported f (by left₀)
  where
    by : (left : Option (List ℕ)) → IfSome left (λ bytes. GotCut budget v bytes reported reported)
    by None = tt
    by (Some bytes) = inl (nothing_sent reported)

-- a sink that failed
cut_by : (budget : ℕ) (left₀ : Option (List ℕ)) (before now : ℕ) (p : ReaderState) (m : Moment) (count : ℕ) (v : DrawnRange) (u : IsUnderWay budget left₀ before p now m count) (reported₀ reported' : Option (List ℕ)) (text : List ℕ)
    → IsAPicture p.layout v u.events (spec_of m) text → AppendsPrefix reported₀ reported' text → IsCutOff budget v left₀ reported₀ reported'
unfolding prefix_read
cut_by budget left₀ before now p m count v u reported₀ reported' text is prefix =
    if_some left₀ _ (λ bytes reported_is. (prefix_read budget left₀ before now p m count u bytes reported_is, text, is, prefix))

-- the end of a legal trace, or of one that can't be read further
module _ (budget : ℕ) (left₀ : Option (List ℕ)) (before now : ℕ) (p : ReaderState) (m : Moment) (count : ℕ) (v : DrawnRange) (reported₀ reported : Option (List ℕ)) (kept : List ℕ) (k : Drawn)
    (d : IsWhole budget left₀ before p now m count v reported₀ reported kept k []) where
  ends_same : ending p.layout v k count cut_words None ≡ ending p.layout v (drawn_at p.layout v [] d.under_way.events) (length d.under_way.events) cut_words None
  ends_same =
      let n = sym d.under_way.counted in
      λ i. ending p.layout v (d.kept_is i) (n i) cut_words None

  -- the end that the counts say is that of the events
  pub legal_end : (on : Bool) (l : Layout) (s : Summary) (end : List ℕ) → l ≡ p.layout → IsEnding on l v k count s d.under_way.events end
      → IsEnding on p.layout v (drawn_at p.layout v [] d.under_way.events) (length d.under_way.events) s d.under_way.events end
  legal_end on l s end same_l h =
      let es = d.under_way.events in
      let laid = subst (λ x. IsEnding on x v k count s es end) same_l h in
      let held = subst (λ x. IsEnding on p.layout v x count s es end) d.kept_is laid in
      subst (λ x. IsEnding on p.layout v (drawn_at p.layout v [] es) x s es end) (sym d.under_way.counted) held

  pub legal_pending : (end : List ℕ) → Pending reported₀ reported (kept ++ end) (prefix_picture p.layout v [] d.under_way.events ++ end) []
  legal_pending end = pending_text reported₀ reported kept (kept ++ end) (prefix_picture p.layout v [] d.under_way.events) end d.flows refl

  cut_pending : (end : List ℕ) → end ≡ kept ++ ending p.layout v k count cut_words None → Pending reported₀ reported end (cut_picture p.layout v d.under_way.events) []
  unfolding cut_picture
  cut_pending end text =
      let es = d.under_way.events in
      pending_text reported₀ reported kept end (prefix_picture p.layout v [] es) (ending p.layout v (drawn_at p.layout v [] es) (length es) cut_words None) d.flows (text ∙ ap (λ x. kept ++ x) ends_same)

  module _ (reported' : Option (List ℕ)) where
    -- the sink failed between two events
    pub room_cut : AppendsPrefix reported reported' kept → IsCutOff budget v left₀ reported₀ reported'
    unfolding cut_picture
    room_cut f =
        let es = d.under_way.events in
        let tail = ending p.layout v (drawn_at p.layout v [] es) (length es) cut_words None in
        let more : Pending reported₀ reported kept (cut_picture p.layout v es) tail = (d.flows.0, d.flows.1, ap (λ x. x ++ tail) (d.flows.2 ∙ append-nil (d.flows.0 ++ kept))) in
        let prefix : AppendsPrefix reported₀ reported' (cut_picture p.layout v es) = pending_fault reported₀ reported reported' kept (cut_picture p.layout v es) tail more f in
        cut_by budget left₀ before now p m count v d.under_way reported₀ reported' (cut_picture p.layout v es) (inr (inl refl)) prefix

    module _ (end : List ℕ) (l : Layout) (same_l : l ≡ p.layout) where
      pub refused_got : (f : TextFault) → end ≡ kept ++ ending l v k count cut_words None → Appends reported reported' end → IsDrawn budget v left₀ reported₀ reported' (refusal f)
      unfolding prefix_read
      refused_got f text a =
          let sent = pending_sent reported₀ reported reported' end (cut_picture p.layout v d.under_way.events) (cut_pending end (subst (λ x. end ≡ kept ++ ending x v k count cut_words None) same_l text)) a in
          refused_drawn budget v left₀ reported₀ reported' f (if_some left₀ _ (λ bytes reported_is. inr (prefix_read budget left₀ before now p m count d.under_way bytes reported_is, sent)))

      pub refused_cut : end ≡ kept ++ ending l v k count cut_words None → AppendsPrefix reported reported' end → IsCutOff budget v left₀ reported₀ reported'
      refused_cut text f =
          let es = d.under_way.events in
          let prefix = pending_fault reported₀ reported reported' end (cut_picture p.layout v es) [] (cut_pending end (subst (λ x. end ≡ kept ++ ending x v k count cut_words None) same_l text)) f in
          cut_by budget left₀ before now p m count v d.under_way reported₀ reported' (cut_picture p.layout v es) (inr (inl refl)) prefix

      pub legal_cut : (s : Summary) → s.events ≡ count → s.held ≡ held m.layout (spec_of m) → s.waiting ≡ waiting m.layout (spec_of m) → s.alerted ≡ alerted m.layout (spec_of m)
          → (tail : List ℕ) → IsEnding v.ordered l v k count s d.under_way.events tail → AppendsPrefix reported reported' (kept ++ tail) → IsCutOff budget v left₀ reported₀ reported'
      legal_cut s a b c e tail h f =
          let es = d.under_way.events in
          let all = prefix_picture p.layout v [] es ++ tail in
          let prefix = pending_fault reported₀ reported reported' (kept ++ tail) all [] (legal_pending tail) f in
          let tail_is = legal_end v.ordered l s tail same_l h in
          let counts : Counts p.layout es (spec_of m) s = record {
            events = a ∙ sym d.under_way.counted;
            held = b ∙ ap (λ x. held x (spec_of m)) d.under_way.layout;
            waiting = c ∙ ap (λ x. waiting x (spec_of m)) d.under_way.layout;
            alerted = e ∙ ap (λ x. alerted x (spec_of m)) d.under_way.layout;
          } in
          cut_by budget left₀ before now p m count v d.under_way reported₀ reported' all (inl (s, counts, (tail, tail_is, refl))) prefix

-- the end of a trace with an event that fails
module _ (budget : ℕ) (left₀ : Option (List ℕ)) (before now : ℕ) (p : ReaderState) (m : Moment) (count : ℕ) (v : DrawnRange) (reported₀ reported : Option (List ℕ)) (kept : List ℕ) (k : Drawn) (e : Event) (why : Broken)
    (d : IsWhole budget left₀ before p now m count v reported₀ reported kept k (e ∷ [])) where
  fails_same : failed_ending p.layout v k count e why ≡ failed_ending p.layout v (drawn_at p.layout v (e ∷ []) d.under_way.events) (length d.under_way.events) e why
  fails_same =
      let n = sym d.under_way.counted in
      λ i. failed_ending p.layout v (d.kept_is i) (n i) e why

  pub failed_pending : (end : List ℕ) → end ≡ kept ++ failed_ending p.layout v k count e why → Pending reported₀ reported end (failed_picture p.layout v d.under_way.events e why) []
  unfolding failed_picture
  failed_pending end text =
      let es = d.under_way.events in
      pending_text reported₀ reported kept end (prefix_picture p.layout v (e ∷ []) es) (failed_ending p.layout v (drawn_at p.layout v (e ∷ []) es) (length es) e why) d.flows (text ∙ ap (λ x. kept ++ x) fails_same)

  module _ (reported' : Option (List ℕ)) where
    pub failed_room_cut : AppendsPrefix reported reported' kept → IsCutOff budget v left₀ reported₀ reported'
    unfolding failed_picture
    failed_room_cut f =
        let es = d.under_way.events in
        let tail = failed_ending p.layout v (drawn_at p.layout v (e ∷ []) es) (length es) e why in
        let all = failed_picture p.layout v es e why in
        let more : Pending reported₀ reported kept all tail = (d.flows.0, d.flows.1, ap (λ x. x ++ tail) (d.flows.2 ∙ append-nil (d.flows.0 ++ kept))) in
        cut_by budget left₀ before now p m count v d.under_way reported₀ reported' all (inr (inr (e, why, refl))) (pending_fault reported₀ reported reported' kept all tail more f)

    pub failed_cut : (end : List ℕ) (l : Layout) → l ≡ p.layout → end ≡ kept ++ failed_ending l v k count e why → AppendsPrefix reported reported' end → IsCutOff budget v left₀ reported₀ reported'
    failed_cut end l same_l text f =
        let es = d.under_way.events in
        let prefix = pending_fault reported₀ reported reported' end (failed_picture p.layout v es e why) [] (failed_pending end (subst (λ x. end ≡ kept ++ failed_ending x v k count e why) same_l text)) f in
        cut_by budget left₀ before now p m count v d.under_way reported₀ reported' (failed_picture p.layout v es e why) (inr (inr (e, why, refl))) prefix

pub legal_got : (budget : ℕ) (left₀ : Option (List ℕ)) (before now : ℕ) (p p' : ReaderState) (m : Moment) (count : ℕ) (v : DrawnRange) (reported₀ reported : Option (List ℕ)) (kept : List ℕ) (k : Drawn) (d : IsWhole budget left₀ before p now m count v reported₀ reported kept k []) (end : List ℕ) (reported' : Option (List ℕ)) (l : Layout) (s : Summary) → l ≡ p.layout
    → budget < 2 ^ 64 - 1 → TakesEnd p p' → s.events ≡ count → s.held ≡ held m.layout (spec_of m) → s.waiting ≡ waiting m.layout (spec_of m) → s.alerted ≡ alerted m.layout (spec_of m)
    → IsEnding v.ordered l v k count s d.under_way.events end → Appends reported reported' (kept ++ end) → IsDrawn budget v left₀ reported₀ reported' (verdict.Legal s)
unfolding ends_on
legal_got budget None before now p p' m count v reported₀ reported kept k d end reported' l s same_l fits t a b c e h sent = tt
legal_got budget (Some bytes) before now p p' m count v reported₀ reported kept k d end reported' l s same_l fits t a b c e h sent = (
  ends_on budget (Some bytes) before now p p' m count s fits d.under_way t a b c e,
  prefix_picture p.layout v [] d.under_way.events ++ end,
  (end, legal_end budget (Some bytes) before now p m count v reported₀ reported kept k d v.ordered l s end same_l h, refl),
  pending_sent reported₀ reported reported' (kept ++ end) (prefix_picture p.layout v [] d.under_way.events ++ end) (legal_pending budget (Some bytes) before now p m count v reported₀ reported kept k d end) sent,
)

pub failed_got : (budget : ℕ) (left₀ : Option (List ℕ)) (before now : ℕ) (p p' : ReaderState) (m : Moment) (count : ℕ) (v : DrawnRange) (reported₀ reported : Option (List ℕ)) (kept : List ℕ) (k : Drawn) (e : Event) (why : Broken) (d : IsWhole budget left₀ before p now m count v reported₀ reported kept k (e ∷ [])) (end : List ℕ) (reported' : Option (List ℕ)) (l : Layout) → l ≡ p.layout
    → TakesEvent p p' e → Fails (spec_of m) e why → end ≡ kept ++ failed_ending l v k count e why → Appends reported reported' end → IsDrawn budget v left₀ reported₀ reported' (verdict.Illegal count why)
unfolding fails_on
failed_got budget None before now p p' m count v reported₀ reported kept k e why d end reported' l same_l t f text sent = tt
failed_got budget (Some bytes) before now p p' m count v reported₀ reported kept k e why d end reported' l same_l t f text sent = (
  fails_on budget (Some bytes) before now p p' m count e why d.under_way t f,
  pending_sent reported₀ reported reported' end (failed_picture p.layout v d.under_way.events e why) (failed_pending budget (Some bytes) before now p m count v reported₀ reported kept k e why d end (subst (λ x. end ≡ kept ++ failed_ending x v k count e why) same_l text)) sent,
)

pub take_none : (xs : List ℕ) → take 0 xs ≡ []
take_none [] = refl
take_none (x ∷ xs) = refl

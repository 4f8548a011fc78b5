-- The picture of a trace.
use Rattle.std.specs.Prelude.{ℕ, ◌+◌, ◌==◌, ◌&&◌, take, nat_lt, if◌then◌else◌, List, [], ◌∷◌, ◌++◌, length, codes, None}
use Rattle.std.specs.declared.option.Option.{Option}
use Rattle.larch_actions.specs.declared.event.Layout.{Layout}
use Rattle.larch_actions.specs.declared.event.Event.{Event}
use Rattle.larch_actions.specs.declared.event.Broken.{Broken}
use Rattle.trace_shapes.specs.declared.view.DrawnRange.{DrawnRange}
use Rattle.trace_check.specs.declared.checker.Summary.{Summary}
use Rattle.trace_board.specs.declared.history.Origin.{Origin}
use Rattle.trace_board.specs.Tracked.{Tracked, tracked_since, extended}
use Rattle.trace_shapes.specs.declared.view.Plan.{Plan}
use Rattle.trace_shapes.specs.Places.{in_view, column, is_open, band_of}
use Rattle.trace_shapes.specs.Shapes.{with_number, each_below}
use Rattle.trace_shapes.specs.Legend.{legend_text, legend_height}
use Rattle.trace_picture.specs.Longest.{holds_text, holds_height}
use Rattle.trace_picture.specs.Overview.{over_height, over_style}
use Rattle.trace_picture.specs.declared.plan.Page.{Page}
use Rattle.trace_picture.specs.Plan.{no_page, page_of, room_of}
use Rattle.trace_picture.specs.Bands.{step_text, failing_text, closing}
use Rattle.trace_picture.specs.Shown.{Drawn, drawn_since, drawn_failed}
use Rattle.trace_picture.specs.Verdicts.{cut_words, counted_line, refusal}
use Rattle.trace_picture.specs.declared.verdicts.TheConstants.{ONE_LINE, THREE_LINES}

unfoldable pub style_text : List ℕ
style_text =
    codes "<svg xmlns='http://www.w3.org/2000/svg' width='1252' font-family='Helvetica,Arial,sans-serif' font-size='11'>\n<title>Firefly Threads timeline</title>\n<style>\n" ++ codes "text{fill:#1f2328}.r{fill:#f3f4f6}.p,.z{fill:#fff}.l{stroke:#d8dbe0}.n{fill:#6e7781;font-size:10px;text-anchor:middle}.c{fill:#6e7781;font-size:10px}.y,.i{font-weight:bold}.i{text-anchor:middle;stroke:none}.s1,.x,.hx{font-size:10px}.s2{font-size:9px;text-anchor:end}.s3{font-size:8px;text-anchor:end}.hx{paint-order:stroke;stroke:#fff;stroke-width:3px}\n" ++ codes ".m0{fill:#e69f00}.m1{fill:#0072b2}.m2{fill:#f0e442}.m3{fill:#009e73}.m4{fill:#cc79a7}.m5{fill:#56b4e9}.m6{fill:#d55e00}.m1+.x{fill:#fff}\n" ++ codes ".h{fill:url(#h)}.d{fill:#fff3c4}.h,.d{stroke:#8c959f;stroke-width:.6}.o{fill:#fff}.k{fill:#d8dee4}.g{fill:#ffd866}.b{fill:#b6dcf5}.v{fill:#ffb8a3}.j{fill:#bfe3c3}use{stroke:#57606a;stroke-width:.8}\n"

unfoldable pub pattern_text : List ℕ
pattern_text =
    codes ".u{display:none}.e{fill:#fff;stroke:#57606a;stroke-dasharray:3 2}.f{fill:#cf222e;stroke:#cf222e}.f+.i,.ft,.fe{fill:#fff}.ft,.fe{font-weight:bold;filter:url(#t)}.fe{text-anchor:end}.fl{stroke:#cf222e;stroke-width:2}.u0{fill:#57606a}.u1{fill:#c9ced5}.a{fill:none;stroke:#a02c6b;stroke-width:1.6;marker-end:url(#a)}.q{fill:none;stroke:#fff;stroke-width:4}.hd{font-size:13px}.ok,.no,.at{font-weight:bold}.ok{fill:#1a7f37}.no{fill:#cf222e}.at{fill:#9a6700}\n@media (prefers-color-scheme:dark){text{fill:#e6edf3}.p,.z{fill:#0d1117}.r{fill:#1c2128}.n,.c{fill:#9198a1}.l{stroke:#30363d}.q{stroke:#0d1117}.a{stroke:#ff8fc7}.ar{fill:#ff8fc7}.i,.s1,.s2,.s3,.x{fill:#1f2328}.m1+.x,.f+.i,.ft,.fe{fill:#fff}.hx{fill:#e6edf3;stroke:#0d1117}.hb{fill:#22272e}.d{fill:#5c4f17}.u0{fill:#adb5bd}.u1{fill:#3d444d}.ok{fill:#3fb950}.no{fill:#ff7b72}.at{fill:#e3b341}}\n</style>\n" ++ codes "<defs><pattern id='h' width='5' height='5' patternUnits='userSpaceOnUse' patternTransform='rotate(45)'><rect class='hb' width='5' height='5' fill='#fff'/><rect width='2' height='5' fill='#b4bcc5'/></pattern>\n" ++ codes "<marker id='a' viewBox='0 0 6 6' refX='5' refY='3' markerWidth='7' markerHeight='7' markerUnits='userSpaceOnUse' orient='auto'><path class='ar' d='M0 0L6 3L0 6z' fill='#a02c6b'/></marker><filter id='t' x='-.05' y='-.15' width='1.1' height='1.3'><feFlood flood-color='#cf222e'/><feComposite in='SourceGraphic'/></filter></defs>\n" ++ codes "<rect class='p' width='100%' height='100%'/>\n<g class='s'>\n"

-- the looks of the mutexes from the eighth on: pale with an edge, and from the fifteenth on a dashed one
unfoldable pub many_style : List ℕ
many_style =
    codes "<style>\n.m7,.m14,.m21,.m28,.m35,.m42,.m49,.m56,.m63{fill:#f7dca6;stroke:#e69f00;stroke-width:1.5}.m8,.m15,.m22,.m29,.m36,.m43,.m50,.m57{fill:#a6cbe6;stroke:#0072b2;stroke-width:1.5}.m9,.m16,.m23,.m30,.m37,.m44,.m51,.m58{fill:#faf5b8;stroke:#f0e442;stroke-width:1.5}.m10,.m17,.m24,.m31,.m38,.m45,.m52,.m59{fill:#a6dccb;stroke:#009e73;stroke-width:1.5}.m11,.m18,.m25,.m32,.m39,.m46,.m53,.m60{fill:#edcfde;stroke:#cc79a7;stroke-width:1.5}.m12,.m19,.m26,.m33,.m40,.m47,.m54,.m61{fill:#cbe6f8;stroke:#56b4e9;stroke-width:1.5}.m13,.m20,.m27,.m34,.m41,.m48,.m55,.m62{fill:#f3c3a6;stroke:#d55e00;stroke-width:1.5}\n.m14,.m15,.m16,.m17,.m18,.m19,.m20{stroke-dasharray:7 3}.m21,.m22,.m23,.m24,.m25,.m26,.m27{stroke-dasharray:2 2}.m28,.m29,.m30,.m31,.m32,.m33,.m34{stroke-dasharray:12 2}.m35,.m36,.m37,.m38,.m39,.m40,.m41{stroke-dasharray:7 2 2 2}.m42,.m43,.m44,.m45,.m46,.m47,.m48{stroke-dasharray:4 4}.m49,.m50,.m51,.m52,.m53,.m54,.m55{stroke-dasharray:1 3}.m56,.m57,.m58,.m59,.m60,.m61,.m62{stroke-dasharray:12 2 2 2}.m63{stroke-dasharray:3 1}\n</style>\n"

abbrev pub many_if : ℕ → List ℕ
many_if mutexes = if nat_lt 7 mutexes then many_style else []

-- over a bar of a mutex the bars of the others fade
unfoldable pub hover_text : ℕ → List ℕ
hover_text m =
    with_number (codes "<style>.w:has(.m") m ++ with_number (codes ":hover) rect[class^=m]:not(.m") m ++ codes "){opacity:.25}</style>\n"

-- what follows is moved down, so that the legend and the overview have room above it
unfoldable pub over_words : List ℕ
over_words =
    codes "<g class='w'>\n<text class='u' x='44' y='-4'>Overview: a column for fifty events, dark for the threads that had one, light for those that only wait, and below them the mutexes that were held; it links to its band</text>\n"

-- the first tag, the colours, and where the bands begin
unfoldable pub head_text : Layout → List ℕ
head_text l = style_text ++ pattern_text ++ (many_if l.mutexes ++ each_below hover_text l.mutexes) ++ over_words

-- The page of the first of these events after this past: a new one where it begins a band, of what is kept then and of the events of that band.
abbrev pub page_at : Layout → DrawnRange → List Event → List Event → Page → Page
page_at l v past es p =
    if in_view v (length past) && column v (length past) == 0 then page_of l (tracked_since past) (take (room_of v (length past)) es) p.next
    else p

-- what events add after this past, in order, where these others come after them
unfoldable pub steps_text : Layout → DrawnRange → List Event → Page → List Event → List Event → List ℕ
steps_text l v after p past [] = []
steps_text l v after p past (e ∷ es) =
    step_text l v (page_at l v past ((e ∷ es) ++ after) p) (tracked_since past) (length past) e
    ++ steps_text l v after (page_at l v past ((e ∷ es) ++ after) p) (e ∷ past) es

-- the page of the last of them
unfoldable pub page_since : Layout → DrawnRange → List Event → Page → List Event → List Event → Page
page_since l v after p past [] = p
page_since l v after p past (e ∷ es) = page_since l v after (page_at l v past ((e ∷ es) ++ after) p) (e ∷ past) es

-- the head, and what all these events add
unfoldable pub prefix_picture : Layout → DrawnRange → List Event → List Event → List ℕ
prefix_picture l v after es = head_text l ++ steps_text l v after no_page [] es

-- what was drawn then; of the others that come after them the first, which fails, has its page
abbrev pub page_for : Layout → DrawnRange → List Event → List Event → Page → Page
page_for l v past [] p = p
page_for l v past (e ∷ es) p = page_at l v past (e ∷ es) p

abbrev pub drawn_at : Layout → DrawnRange → List Event → List Event → Drawn
drawn_at l v after es = drawn_since l v (page_for l v (extended [] es) after (page_since l v after no_page [] es)) (extended [] es)

-- by how much the legend and the overview move the bands down
abbrev pub moved_down : Layout → DrawnRange → (ℕ → Option Origin) → ℕ → ℕ
moved_down l v shown n = legend_height shown + over_height l v n

-- the height, by how much the words at the top move the rest down and what stands above the bands moves them, what shows the overview, and the last tag
abbrev pub last_tags : Layout → DrawnRange → (ℕ → Option Origin) → ℕ → ℕ → ℕ → List ℕ
last_tags l v shown n low words =
    with_number (codes "<style>:root{height:") (low + 14 + holds_height l.mutexes + moved_down l v shown n + words)
    ++ with_number (codes "px}.s{transform:translate(0,") words ++ with_number (codes "px)}.w{transform:translate(0,") (moved_down l v shown n)
    ++ over_style l v n

-- the lines of the mutexes, which end the bands, the legend, the words at the top, which are so high, and what follows them
unfoldable pub end_text : Layout → DrawnRange → Drawn → ℕ → ℕ → List ℕ → List ℕ
end_text l v d n high words =
    holds_text l.mutexes d.board n d.page.next ++ (codes "</g>\n" ++ legend_text d.shown ++ codes "</g>\n") ++ words
    ++ last_tags l v d.shown n d.page.next high

-- the end of the last band after n events, where it is not full
unfoldable pub closing_if : Layout → DrawnRange → Plan → Tracked → ℕ → List ℕ
closing_if l v p k n = if is_open v n then closing l v (band_of l v p n) k n else []

-- the end of the picture of n events, with these words, their count and what is left at its top
abbrev pub ending : Layout → DrawnRange → Drawn → ℕ → List ℕ → Option Summary → List ℕ
ending l v d n words left = closing_if l v d.page.plan d.board n ++ end_text l v d n ONE_LINE (counted_line v n words left)

-- the event n, which fails, and the end of the picture
abbrev pub failed_ending : Layout → DrawnRange → Drawn → ℕ → Event → Broken → List ℕ
failed_ending l v d n e why =
    failing_text l v d.page d.board n e why ++ end_text l v (drawn_failed l v n e d) (n + 1) THREE_LINES (refusal l.version v d.board n e why)

-- the picture of a trace up to the event that fails
unfoldable pub failed_picture : Layout → DrawnRange → List Event → Event → Broken → List ℕ
failed_picture l v es e why = prefix_picture l v (e ∷ []) es ++ failed_ending l v (drawn_at l v (e ∷ []) es) (length es) e why

-- the picture of the events of an input that can't be read further
unfoldable pub cut_picture : Layout → DrawnRange → List Event → List ℕ
cut_picture l v es = prefix_picture l v [] es ++ ending l v (drawn_at l v [] es) (length es) cut_words None

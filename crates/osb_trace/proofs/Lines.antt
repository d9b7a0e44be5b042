-- What was heard of a line is what is told of it.
use Rattle.std.proofs.Common.{◌≡◌, ℕ, ◌+◌, true, List, [], ◌∷◌, ◌++◌, length, refl, sym, ap, ◌∙◌, subst}
use Rattle.std.proofs.Common.{Ok, Err, Some, None, rules, arith, take, get_or}
use Rattle.std.proofs.lemmas.List.{get_or_at, length-append, take_at}
use Rattle.std.specs.Prelude.{Option, Result}
use Rattle.osb_event.specs.Naming.{event_id}
use Rattle.osb_event.specs.declared.event.Event.{Event}
use Rattle.osb_language.specs.Language.{line_of}
use Rattle.osb_language.specs.declared.fault.LineFault.{LineFault}
use Rattle.osb_language.specs.declared.line.Line.{Line}
use Rattle.osb_lines.proofs.Adding.{catalogue-more, events-more}
use Rattle.osb_lines.specs.Schedule.{catalogue_in, event_in, events_in, with_plan}
use Rattle.osb_message.specs.Plans.{Catalogue}
use Rattle.osb_run.proofs.Running.{run-more}
use Rattle.osb_world.proofs.Following.{cell_after-more}
use Rattle.osb_run.specs.Run.{IsRunOf}
use Rattle.osb_trace.proofs.Rounds.{said_after}
use Rattle.osb_trace.specs.Columns.{columns}
use Rattle.osb_trace.specs.Heard.{HasTraced, IsHeard, IsNamedHeard, IsSaidHeard}
use Rattle.osb_trace.specs.Telling.{asked_columns, head, is_asked, said_step, step_word, told_of}
use Rattle.osb_trace.specs.Telling.{told_restart, IsLineTold, IsNamedTold, IsSaidTold}
use Rattle.osb_trace.specs.declared.tracer.Heard.{Heard}
use Rattle.osb_trace.specs.declared.tracer.Heard.TheVariants as Hears
use Rattle.osb_trace.specs.declared.tracer.Tracer.{Tracer}
use Rattle.osb_world.specs.Events.{cell_after, is_of}
use Rattle.osb_world.specs.Steps.{applies, cell_step}
use Rattle.osb_world.specs.Views.{step_of}
use Rattle.osb_world.specs.declared.cell.Cell.{Cell}
use Rattle.osb_world.specs.declared.step.Step.{Step}

-- what an event made of its instance
stepped : (cat : Catalogue) (events : List Event) (event : Event) (id : ℕ) → event_id event ≡ Some id
    → cell_after cat id (events ++ event ∷ []) ≡ cell_step cat (cell_after cat id events) event
stepped cat events event id named =
    let here : is_of id event ≡ true = rw named (search rules) in
    cell_after-more cat id events event ∙ rw here refl

-- what is told of an event that was heard of
event_told : (instance : Option ℕ) (head : List ℕ) (cat : Catalogue) (events : List Event) (event heard_of : Event)
    (id asked : ℕ) (step : Step) (after : Cell)
    → event_id event ≡ Some id
    → heard_of ≡ event → asked ≡ id → step ≡ step_of (applies (cell_after cat id events) event)
    → is_asked instance asked ≡ true → after ≡ cell_after cat asked (events ++ event ∷ [])
    → head ++ said_step step after heard_of ++ 9 ∷ columns after ≡ told_of instance head cat events event id
event_told instance front cat events event heard_of id asked step after named same_event same_id same_step shown is =
    let before = cell_after cat id events in
    let next = cell_after cat id (events ++ event ∷ []) in
    let reached : after ≡ next = is ∙ ap (λ id. cell_after cat id (events ++ event ∷ [])) same_id in
    let wanted : is_asked instance id ≡ true = subst (λ id. is_asked instance id ≡ true) same_id shown in
    let word : said_step step after heard_of ≡ step_word before event =
    (λ i. said_step (same_step i) ((reached ∙ stepped cat events event id named) i) (same_event i))
    ∙ said_after cat before event in
    (λ i. front ++ word i ++ 9 ∷ columns (reached i)) ∙ rw wanted refl

named_told : (instance : Option ℕ) (head : List ℕ) (cat : Catalogue) (events : List Event) (event heard_of : Event)
    (named : Option ℕ) (heard : Heard) (asked : ℕ) (step : Step) (after : Cell)
    → event_id event ≡ named → IsNamedHeard cat events event named heard → heard ≡ Hears.Event asked heard_of step
    → is_asked instance asked ≡ true → after ≡ cell_after cat asked (events ++ event ∷ [])
    → IsNamedTold instance head cat events event named (head ++ said_step step after heard_of ++ 9 ∷ columns after)
named_told instance front cat events event heard_of (Some id) heard asked step after named given is shown reached =
    event_told instance front cat events event heard_of id asked step after named (cc) (cc) (cc) shown reached
named_told instance front cat events event heard_of None heard asked step after named (n, count, given) is shown reached =
    absurd (cc)

said_told : (instance : Option ℕ) (start text : List ℕ) (cat : Catalogue) (events : List Event)
    (said : Result Line LineFault) (heard : Heard) (asked : ℕ) (heard_of : Event) (step : Step) (after : Cell)
    → IsSaidHeard cat events said start heard text → heard ≡ Hears.Event asked heard_of step
    → is_asked instance asked ≡ true → after ≡ cell_after (with_plan cat said) asked (events ++ event_in said)
    → IsSaidTold instance start cat events said (text ++ said_step step after heard_of ++ 9 ∷ columns after)
said_told instance start text cat events (Ok (Line.Event event)) heard asked heard_of step after (given, first) is shown reached =
    subst (λ front. IsNamedTold instance start cat events event (event_id event)
    (front ++ said_step step after heard_of ++ 9 ∷ columns after)) (sym first)
    (named_told instance start cat events event heard_of (event_id event) heard asked step after refl given is shown reached)
said_told instance start text cat events (Err fault) heard asked heard_of step after given is shown reached = absurd (cc)
said_told instance start text cat events (Ok Line.Nothing) heard asked heard_of step after given is shown reached = absurd (cc)
said_told instance start text cat events (Ok (Line.Plan service plan mode)) heard asked heard_of step after given is shown
    reached = absurd (cc)

pub told_event_line : (instance : Option ℕ) (earlier : List (List ℕ)) (line : List ℕ) (tracer : Tracer) (asked : ℕ)
    (heard_of : Event) (step : Step) (after : Cell)
    → HasTraced (earlier ++ line ∷ []) tracer → tracer.heard ≡ Hears.Event asked heard_of step
    → is_asked instance asked ≡ true
    → after ≡ cell_after (catalogue_in (earlier ++ line ∷ [])) asked (events_in (earlier ++ line ∷ []))
    → IsLineTold instance earlier line (tracer.head.items ++ said_step step after heard_of ++ 9 ∷ columns after)
told_event_line instance earlier line tracer asked heard_of step after traced is shown reached =
    said_told instance (head (length earlier + 1) line) tracer.head.items (catalogue_in earlier) (events_in earlier)
    (line_of line) tracer.heard asked heard_of step after (traced.last earlier line refl) is shown
    (reached ∙ (λ i. cell_after (catalogue-more earlier line i) asked (events-more earlier line i)))

-- what is told of a restart that was heard of
named_restart : (instance : Option ℕ) (head : List ℕ) (cat : Catalogue) (events : List Event) (event : Event)
    (named : Option ℕ) (heard : Heard) (changed : ℕ)
    → IsNamedHeard cat events event named heard → heard ≡ Hears.Restart changed
    → IsNamedTold instance head cat events event named
    (told_restart head changed (asked_columns instance (λ id. cell_after cat id (events ++ event ∷ []))))
named_restart instance front cat events event None heard changed (n, count, given) is =
    let same : n ≡ changed = cc in
    (n, count, sym (ap (λ n. told_restart front n (asked_columns instance (λ id. cell_after cat id (events ++ event ∷ [])))) same))
named_restart instance front cat events event (Some id) heard changed given is = absurd (cc)

said_restart : (instance : Option ℕ) (start text : List ℕ) (cat : Catalogue) (events : List Event)
    (said : Result Line LineFault) (heard : Heard) (changed : ℕ)
    → IsSaidHeard cat events said start heard text → heard ≡ Hears.Restart changed
    → IsSaidTold instance start cat events said
    (told_restart text changed (asked_columns instance (λ id. cell_after (with_plan cat said) id (events ++ event_in said))))
said_restart instance start text cat events (Ok (Line.Event event)) heard changed (given, first) is =
    subst (λ front. IsNamedTold instance start cat events event (event_id event)
    (told_restart front changed (asked_columns instance (λ id. cell_after cat id (events ++ event ∷ []))))) (sym first)
    (named_restart instance start cat events event (event_id event) heard changed given is)
said_restart instance start text cat events (Err fault) heard changed given is = absurd (cc)
said_restart instance start text cat events (Ok Line.Nothing) heard changed given is = absurd (cc)
said_restart instance start text cat events (Ok (Line.Plan service plan mode)) heard changed given is = absurd (cc)

pub told_restart_line : (instance : Option ℕ) (earlier : List (List ℕ)) (line : List ℕ) (tracer : Tracer) (changed : ℕ)
    → HasTraced (earlier ++ line ∷ []) tracer → tracer.heard ≡ Hears.Restart changed
    → IsLineTold instance earlier line (told_restart tracer.head.items changed
    (asked_columns instance
    (λ id. cell_after (catalogue_in (earlier ++ line ∷ [])) id (events_in (earlier ++ line ∷ [])))))
told_restart_line instance earlier line tracer changed traced is =
    subst (λ (p : Catalogue × List Event). IsLineTold instance earlier line
    (told_restart tracer.head.items changed (asked_columns instance (λ id. cell_after p.0 id p.1))))
    (λ i. (sym (catalogue-more earlier line) i, sym (events-more earlier line) i))
    (said_restart instance (head (length earlier + 1) line) tracer.head.items (catalogue_in earlier) (events_in earlier)
    (line_of line) tracer.heard changed (traced.last earlier line refl) is)

-- ---- one line more

-- a list has one last element
last_of : {X : Type 0} (xs : List X) (x : X) (ys : List X) (y : X) → xs ++ x ∷ [] ≡ ys ++ y ∷ []
    → (ys ≡ xs) × (y ≡ x)
last_of xs x ys y same =
    let long = length-append xs (x ∷ []) in
    let other = length-append ys (y ∷ []) in
    let equal : length (xs ++ x ∷ []) ≡ length (ys ++ y ∷ []) = ap length same in
    let even : length ys ≡ length xs = omega arith in (
      sym (take_at ys (y ∷ []) (length ys) refl) ∙ (λ i. take (even i) (sym same i))
          ∙ take_at xs (x ∷ []) (length xs) refl,
      sym (get_or_at ys y [] y (length ys) refl) ∙ (λ i. get_or (sym same i) (even i) y)
          ∙ get_or_at xs x [] y (length xs) refl,
    )

pub traced_more : (earlier : List (List ℕ)) (line : List ℕ) (number : ℕ) (said : Result Line LineFault) (tracer : Tracer)
    → line_of line ≡ said → number ≡ length earlier + 1
    → IsRunOf (with_plan (catalogue_in earlier) said) (events_in earlier ++ event_in said) tracer.run
    → IsSaidHeard (catalogue_in earlier) (events_in earlier) said (head number line) tracer.heard tracer.head.items
    → HasTraced (earlier ++ line ∷ []) tracer
traced_more earlier line number said tracer says numbered ran heard =
    let here : IsHeard earlier line tracer =
    subst (λ (p : Result Line LineFault × ℕ). IsSaidHeard (catalogue_in earlier) (events_in earlier) p.0
    (head p.1 line) tracer.heard tracer.head.items) (λ i. (sym says i, numbered i)) heard in
    record {
      ran = run-more earlier line said tracer.run says ran;
      last = λ others last same. let (same_others, same_last) = last_of earlier line others last same in
          subst (λ (p : List (List ℕ) × List ℕ). IsHeard p.0 p.1 tracer)
          (λ i. (sym same_others i, sym same_last i)) here;
    }

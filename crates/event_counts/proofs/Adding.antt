-- What a moment sees of the counts of events is what it sees of the events.
use Rattle.std.proofs.Common.{Ordering, ◌≡◌, ℕ, ◌≤◌, ◌||◌, Bool, true, false, List, [], ◌∷◌, ◌++◌, map, max, Option, Some, None, Less, Equal, Greater, refl, sym, ap, ◌∙◌, subst, arith, append_assoc}
use Rattle.std.proofs.lemmas.List.{append-nil}
use Rattle.std.specs.Cmp.Lexicographic.{bytes_decides}
use Rattle.std.specs.List.{AllByRecursion, list_any}
use Rattle.std.specs.Ordering.{match_ordering}
use Rattle.std.specs.Prelude.{bytes_eq, if◌then◌else◌, ⊤}
use Rattle.std.proofs.lemmas.Bool.{or_right}
use Rattle.json_tree.specs.Json.{Json, get, get_member, members_of}
use Rattle.event_counts.specs.declared.interval.Interval.TheVariants.{Hours, Days, Weeks}
use Rattle.event_counts.specs.declared.name_counts.NameCounts.{NameCounts}
use Rattle.event_counts.specs.History.{Event, has_name, moved, dated, greatest, counts_after, history_view, sums, sums_json}
use Rattle.event_counts.specs.Intervals.{turns}
use Rattle.event_counts.specs.Kept.{moment_at, at_moment, with_more, found, found_at, with_name, counted_in}
use Rattle.event_counts.specs.Lists.{turned}
use Rattle.event_counts.specs.Sound.{name_cmp}
use Rattle.event_counts.specs.View.{counts_json, lists_json, member_at, view_of}
use Rattle.sequences.proofs.Texts.{same_texts, turned_down}
use Rattle.sequences.proofs.Alls.{all_push}
use Rattle.event_counts.proofs.Sums.{HasSums, AreBefore, sums_same, sums-turned, sums-raised, sums-beside, sums-zeros}

-- ---- what is kept of events

-- what is kept of a name that has an event
record IsKept (name : List ℕ) (es : List Event) (n : NameCounts) : Type 0 where
  same : n.name ≡ name
  some : list_any (has_name name) es ≡ true
  before : AreBefore name n.latest es
  hours : HasSums Hours name n.latest es n.hours
  days : HasSums Days name n.latest es n.days
  weeks : HasSums Weeks name n.latest es n.weeks

abbrev HasNone : List ℕ → List Event → Type 0
HasNone name es = AllByRecursion (λ e. has_name name e ≡ false) es

abbrev Matches : List ℕ → List Event → Option NameCounts → Type 0
Matches name es None = HasNone name es
Matches name es (Some n) = IsKept name es n

-- these counts are those of these events
record Stands (es : List Event) (ns : List NameCounts) : Type 0 where
  moment : (now : ℕ) → moment_at now ns ≡ greatest now es
  names : (name : List ℕ) → Matches name es (found name ns)

-- ---- moments

abbrev AreWithin : ℕ → List NameCounts → Type 0
AreWithin moment ns = AllByRecursion (λ n. n.latest ≤ moment) ns

least : (now : ℕ) (ns : List NameCounts) → now ≤ moment_at now ns
least now [] = omega arith
least now (n ∷ ns) = let rest = least (max now n.latest) ns in omega (arith, rest)

all_within : (now : ℕ) (ns : List NameCounts) → AreWithin (moment_at now ns) ns
all_within now [] = tt
all_within now (n ∷ ns) = let rest = least (max now n.latest) ns in (omega (arith, rest), all_within (max now n.latest) ns)

stays : (now moment : ℕ) (ns : List NameCounts) → AreWithin moment ns → moment ≤ now → moment_at now ns ≡ now
stays now moment [] within most = refl
stays now moment (n ∷ ns) within most =
    let latest = within.0 in
    let same : max now n.latest ≡ now = omega (arith, latest, most) in
    ap (λ x. moment_at x ns) same ∙ stays now moment ns within.1 most

moment-with : (n : NameCounts) (ns : List NameCounts) (now moment : ℕ) → AreWithin moment ns → n.latest ≡ moment → moment_at now (with_name n ns) ≡ max now moment
moment-with n [] now moment within is = ap (λ x. max now x) is
moment-with n (o ∷ os) now moment within is =
    let latest = within.0 in
    elim (name_cmp n.name o.name) as (λ c. moment_at now (match_ordering c (n ∷ o ∷ os) (n ∷ os) (o ∷ with_name n os)) ≡ max now moment) [
      | Less ↦
          let same : max (max now n.latest) o.latest ≡ max now moment = omega (arith, latest, is) in
          ap (λ x. moment_at x os) same ∙ stays (max now moment) moment os within.1 (omega arith)
      | Equal ↦ ap (λ x. moment_at (max now x) os) is ∙ stays (max now moment) moment os within.1 (omega arith)
      | Greater ↦
          let same : max (max now o.latest) moment ≡ max now moment = omega (arith, latest) in
          moment-with n os (max now o.latest) moment within.1 is ∙ same
    ]

greatest_max : (now : ℕ) (es : List Event) → greatest now es ≡ max now (greatest 0 es)
greatest_max now [] = omega arith
greatest_max now (e ∷ es) =
    let here = greatest_max (max now e.moment) es in
    let first = greatest_max (max 0 e.moment) es in
    omega (arith, here, first)

greatest-add : (now : ℕ) (es : List Event) (e : Event) → greatest now (es ++ e ∷ []) ≡ max (greatest now es) e.moment
greatest-add now [] e = refl
greatest-add now (o ∷ es) e = greatest-add (max now o.moment) es e

-- ---- names

apart_names : (a b name : List ℕ) → name_cmp a b ≡ Greater → bytes_eq a name ≡ true → bytes_eq b name ≡ true → ⊥
apart_names a b name order is also =
    let same : a ≡ b = (bytes_decides a name).0 is ∙ sym ((bytes_decides b name).0 also) in
    let even : name_cmp b b ≡ Greater = subst (λ t. name_cmp t b ≡ Greater) same order in
    let turned_over : name_cmp b b ≡ Less = turned_down b b even in
    absurd (cc)

swapped : (n o : NameCounts) (rest : Option NameCounts) (a b : Bool) → (a ≡ true → b ≡ true → ⊥) → (if b then Some o else (if a then Some n else rest)) ≡ (if a then Some n else (if b then Some o else rest))
swapped n o rest true true apart = absurd (apart refl refl)
swapped n o rest true false apart = refl
swapped n o rest false true apart = refl
swapped n o rest false false apart = refl

hidden : (n o : NameCounts) (rest : Option NameCounts) (a b : Bool) → a ≡ b → (if a then Some n else rest) ≡ (if a then Some n else (if b then Some o else rest))
hidden n o rest true b same = refl
hidden n o rest false true same = absurd (cc)
hidden n o rest false false same = refl

found_step : (name : List ℕ) (n o : NameCounts) (os : List NameCounts) (c : Ordering) → name_cmp n.name o.name ≡ c → found name (with_name n os) ≡ (if bytes_eq n.name name then Some n else found name os)
    → found name (match_ordering c (n ∷ o ∷ os) (n ∷ os) (o ∷ with_name n os)) ≡ (if bytes_eq n.name name then Some n else found name (o ∷ os))
found_step name n o os Less e rest = refl
found_step name n o os Equal e rest = hidden n o (found name os) (bytes_eq n.name name) (bytes_eq o.name name) (ap (λ t. bytes_eq t name) (same_texts n.name o.name e))
found_step name n o os Greater e rest =
    ap (λ f. if bytes_eq o.name name then Some o else f) rest
    ∙ swapped n o (found name os) (bytes_eq n.name name) (bytes_eq o.name name) (apart_names n.name o.name name e)

found-with : (name : List ℕ) (n : NameCounts) (ns : List NameCounts) → found name (with_name n ns) ≡ (if bytes_eq n.name name then Some n else found name ns)
found-with name n [] = refl
found-with name n (o ∷ os) = found_step name n o os (name_cmp n.name o.name) refl (found-with name n os)

abbrev IsWithin : ℕ → Option NameCounts → Type 0
IsWithin moment None = ⊤
IsWithin moment (Some n) = n.latest ≤ moment

within_step : (moment : ℕ) (o : NameCounts) (rest : Option NameCounts) (b : Bool) → o.latest ≤ moment → IsWithin moment rest → IsWithin moment (if b then Some o else rest)
within_step moment o rest true here later = here
within_step moment o rest false here later = later

one_within : (name : List ℕ) (ns : List NameCounts) (moment : ℕ) → AreWithin moment ns → IsWithin moment (found name ns)
one_within name [] moment within = tt
one_within name (o ∷ os) moment within = within_step moment o (found name os) (bytes_eq o.name name) within.0 (one_within name os moment within.1)

found_within : (name : List ℕ) (ns : List NameCounts) (n : NameCounts) (moment : ℕ) → AreWithin moment ns → found name ns ≡ Some n → n.latest ≤ moment
found_within name ns n moment within is = subst (IsWithin moment) is (one_within name ns moment within)

-- ---- one more event

or_left : (a b c : Bool) → a || b ≡ true → (b ≡ true → c ≡ true) → a || c ≡ true
or_left true b c is rest = refl
or_left false b c is rest = rest is

any-left : (test : Event → Bool) (es : List Event) (e : Event) → list_any test es ≡ true → list_any test (es ++ e ∷ []) ≡ true
any-left test [] e is = absurd (cc)
any-left test (o ∷ es) e is = or_left (test o) (list_any test es) (list_any test (es ++ e ∷ [])) is (any-left test es e)

any-right : (test : Event → Bool) (es : List Event) (e : Event) → test e ≡ true → list_any test (es ++ e ∷ []) ≡ true
any-right test [] e is = ap (λ b. b || false) is
any-right test (o ∷ es) e is = or_right (test o) (list_any test (es ++ e ∷ [])) (any-right test es e is)

later : (name : List ℕ) (first second : ℕ) (es : List Event) → AreBefore name first es → first ≤ second → AreBefore name second es
later name first second [] before most = tt
later name first second (e ∷ es) before most = (λ is. let here = before.0 is in omega (arith, here, most), later name first second es before.1 most)

none_before : (name : List ℕ) (moment : ℕ) (es : List Event) → HasNone name es → AreBefore name moment es
none_before name moment [] none = tt
none_before name moment (e ∷ es) none = (λ is. absurd (cc), none_before name moment es none.1)

kept_then : (name : List ℕ) (moment : ℕ) (es : List Event) (e : Event) (o : Option NameCounts) → has_name name e ≡ true → e.moment ≡ moment → ((n : NameCounts) → o ≡ Some n → n.latest ≤ moment) → Matches name es o
    → IsKept name (es ++ e ∷ []) (with_more e.count (found_at moment name o))
kept_then name moment es e None named is within none = record {
  same = refl;
  some = any-right (has_name name) es e named;
  before = all_push (λ o. has_name name o ≡ true → o.moment ≤ moment) es e (none_before name moment es none) (λ h. omega (arith, is));
  hours = sums-raised Hours name moment es e _ named is (sums-zeros Hours name moment es none);
  days = sums-raised Days name moment es e _ named is (sums-zeros Days name moment es none);
  weeks = sums-raised Weeks name moment es e _ named is (sums-zeros Weeks name moment es none);
}
kept_then name moment es e (Some n) named is within kept =
    let most : n.latest ≤ moment = within n refl in
    record {
      same = kept.same;
      some = any-right (has_name name) es e named;
      before = all_push (λ o. has_name name o ≡ true → o.moment ≤ moment) es e (later name n.latest moment es kept.before most) (λ h. omega (arith, is));
      hours = sums-raised Hours name moment es e _ named is (sums-turned Hours name n.latest moment es n.hours kept.before most kept.hours);
      days = sums-raised Days name moment es e _ named is (sums-turned Days name n.latest moment es n.days kept.before most kept.days);
      weeks = sums-raised Weeks name moment es e _ named is (sums-turned Weeks name n.latest moment es n.weeks kept.before most kept.weeks);
    }

beside : (name : List ℕ) (es : List Event) (e : Event) (o : Option NameCounts) → has_name name e ≡ false → Matches name es o → Matches name (es ++ e ∷ []) o
beside name es e None other none = all_push (λ o. has_name name o ≡ false) es e none other
beside name es e (Some n) other kept = record {
  same = kept.same;
  some = any-left (has_name name) es e kept.some;
  before = all_push (λ o. has_name name o ≡ true → o.moment ≤ n.latest) es e kept.before (λ is. absurd (cc));
  hours = sums-beside Hours name n.latest es e n.hours other kept.hours;
  days = sums-beside Days name n.latest es e n.days other kept.days;
  weeks = sums-beside Weeks name n.latest es e n.weeks other kept.weeks;
}

matches_step : (name other : List ℕ) (es : List Event) (e : Event) (n : NameCounts) (o : Option NameCounts) (b : Bool) → e.name ≡ name → n.name ≡ name → bytes_eq n.name other ≡ b
    → IsKept name (es ++ e ∷ []) n → Matches other es o → Matches other (es ++ e ∷ []) (if b then Some n else o)
matches_step name other es e n o true is same test kept rest =
    let one : name ≡ other = sym same ∙ (bytes_decides n.name other).0 test in
    subst (λ t. IsKept t (es ++ e ∷ []) n) one kept
matches_step name other es e n o false is same test kept rest =
    beside other es e o (ap (λ t. bytes_eq t other) (is ∙ sym same) ∙ test) rest

latest_kept : (name : List ℕ) (moment : ℕ) (o : Option NameCounts) → (found_at moment name o).latest ≡ moment
latest_kept name moment None = refl
latest_kept name moment (Some n) = refl

one_more : (es : List Event) (ns : List NameCounts) (e : Event) → Stands es ns → Stands (es ++ moved (max (greatest 0 es) e.moment) e ∷ []) (counted_in e.name e.count e.moment ns)
one_more es ns e stands =
    let moment : ℕ = moment_at e.moment ns in
    let next : Event = moved (max (greatest 0 es) e.moment) e in
    let g : moment ≡ greatest e.moment es = stands.moment e.moment in
    let top : greatest e.moment es ≡ max e.moment (greatest 0 es) = greatest_max e.moment es in
    let dated_so : next.moment ≡ moment = omega (arith, g, top) in
    let o : Option NameCounts = found e.name ns in
    let n : NameCounts = with_more e.count (found_at moment e.name o) in
    let within : AreWithin moment ns = all_within e.moment ns in
    let here : Matches e.name es o = stands.names e.name in
    let kept : IsKept e.name (es ++ next ∷ []) n = kept_then e.name moment es next o ((bytes_decides e.name e.name).1 refl) dated_so (λ m is. found_within e.name ns m moment within is) here in
    record {
      moment = λ now.
          let made : moment_at now (with_name n ns) ≡ max now moment = moment-with n ns now moment within (latest_kept e.name moment o) in
          let history : greatest now (es ++ next ∷ []) ≡ max (greatest now es) next.moment = greatest-add now es next in
          let base : greatest now es ≡ max now (greatest 0 es) = greatest_max now es in
          omega (arith, made, history, base, g, top, dated_so);
      names = λ name.
          subst (Matches name (es ++ next ∷ [])) (sym (found-with name n ns))
          (matches_step e.name name es next n (found name ns) (bytes_eq n.name name) refl kept.same refl kept (stands.names name));
    }

-- ---- all events

all_stand : (events es : List Event) (ns : List NameCounts) (last : ℕ) → last ≡ greatest 0 es → Stands es ns → Stands (es ++ dated last events) (counts_after ns events)
all_stand [] es ns last is stands = subst (λ (l : List Event). Stands l ns) (sym (append-nil es)) stands
all_stand (e ∷ events) es ns last is stands =
    let moment : ℕ = max last e.moment in
    let next : Event = moved moment e in
    let made : List NameCounts = counted_in e.name e.count e.moment ns in
    let first : Stands (es ++ next ∷ []) made = subst (λ l. Stands (es ++ moved (max l e.moment) e ∷ []) made) (sym is) (one_more es ns e stands) in
    let top : greatest 0 (es ++ next ∷ []) ≡ max (greatest 0 es) moment = greatest-add 0 es next in
    let rest = all_stand events (es ++ next ∷ []) made moment (omega (arith, top, is)) first in
    subst (λ (l : List Event). Stands l (counts_after made events)) (append_assoc es (next ∷ []) (dated moment events)) rest

no_events : Stands [] []
no_events = record { moment = λ now. refl; names = λ name. tt }

-- ---- views

abbrev view_if : ℕ → Option NameCounts → Option Json
view_if moment None = None
view_if moment (Some n) = Some (counts_json (at_moment moment n))

member_step : (moment : ℕ) (n : NameCounts) (rest : Option Json) (o : Option NameCounts) (b : Bool) → rest ≡ view_if moment o → (if b then Some (counts_json (at_moment moment n)) else rest) ≡ view_if moment (if b then Some n else o)
member_step moment n rest o true same = refl
member_step moment n rest o false same = same

get-view : (name : List ℕ) (moment : ℕ) (ns : List NameCounts) → get_member name (members_of (map (member_at moment) ns)) ≡ view_if moment (found name ns)
get-view name moment [] = refl
get-view name moment (n ∷ ns) = member_step moment n (get_member name (members_of (map (member_at moment) ns))) (found name ns) (bytes_eq n.name name) (get-view name moment ns)

none_any : (name : List ℕ) (es : List Event) → HasNone name es → list_any (has_name name) es ≡ false
none_any name [] none = refl
none_any name (e ∷ es) none = ap (λ b. b || list_any (has_name name) es) none.0 ∙ none_any name es none.1

one_view : (name : List ℕ) (moment : ℕ) (es : List Event) (o : Option NameCounts) → ((n : NameCounts) → o ≡ Some n → n.latest ≤ moment) → Matches name es o
    → view_if moment o ≡ (if list_any (has_name name) es then Some (sums_json name moment es) else None)
one_view name moment es None within none = sym (ap (λ b. if b then Some (sums_json name moment es) else None) (none_any name es none))
one_view name moment es (Some n) within kept =
    let most : n.latest ≤ moment = within n refl in
    let hours : turned (turns Hours n.latest moment) n.hours ≡ sums Hours name moment es = sums_same Hours name moment es _ (sums-turned Hours name n.latest moment es n.hours kept.before most kept.hours) in
    let days : turned (turns Days n.latest moment) n.days ≡ sums Days name moment es = sums_same Days name moment es _ (sums-turned Days name n.latest moment es n.days kept.before most kept.days) in
    let weeks : turned (turns Weeks n.latest moment) n.weeks ≡ sums Weeks name moment es = sums_same Weeks name moment es _ (sums-turned Weeks name n.latest moment es n.weeks kept.before most kept.weeks) in
    let lists : view_if moment (Some n) ≡ Some (sums_json name moment es) = λ i. Some (lists_json (hours i) (days i) (weeks i)) in
    lists ∙ sym (ap (λ b. if b then Some (sums_json name moment es) else None) kept.some)

pub views_add_up : (events : List Event) (now : ℕ) (name : List ℕ) → get name (view_of now (counts_after [] events)) ≡ history_view now name (dated 0 events)
views_add_up events now name =
    let es : List Event = dated 0 events in
    let ns : List NameCounts = counts_after [] events in
    let stands : Stands es ns = all_stand events [] [] 0 refl no_events in
    let moment : ℕ = moment_at now ns in
    let view : view_if moment (found name ns) ≡ (if list_any (has_name name) es then Some (sums_json name moment es) else None) =
    one_view name moment es (found name ns) (λ n is. found_within name ns n moment (all_within now ns) is) (stands.names name) in
    get-view name moment ns ∙ view ∙ ap (λ m. if list_any (has_name name) es then Some (sums_json name m es) else None) (stands.moment now)

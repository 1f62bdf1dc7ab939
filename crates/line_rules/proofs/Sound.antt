-- The keys of rows: none is a command's, and what was declared is named; so the names of a line whose
-- words are fit are names.
use Rattle.std.proofs.Common.{List, [], ◌∷◌, ◌++◌, ◌≡◌, ◌≢◌, ◌<◌, Option, Some, length, get_or}
use Rattle.std.proofs.Common.{inl, refl, subst, sym, arith}
use Rattle.std.specs.List.{All}
use Rattle.std.proofs.lemmas.List.{map-append}
use Rattle.std.proofs.lemmas.List.Elements.{All-append, All-cons, All-contains, All-nil, All-weaker}
use Rattle.text_lines.specs.Texts.{IsLongName, IsLongNameByte, IsName, IsNameByte, Word}
use Rattle.line_shapes.specs.Demands.{Meet, MeetsDemand}
use Rattle.line_shapes.specs.Lines.{Statement}
use Rattle.line_shapes.specs.Places.{place_at}
use Rattle.line_shapes.specs.declared.demand.Demand.TheVariants.{Name, LongName}
use Rattle.line_shapes.specs.declared.keyword.Keyword.{Keyword}
use Rattle.line_shapes.specs.declared.place.Kind.{Kind}
use Rattle.line_shapes.specs.declared.place.Kind.TheVariants.{Priced}
use Rattle.line_shapes.specs.declared.place.Place.{Place}
use Rattle.line_shapes.specs.declared.place.Place.TheVariants.{New, Used}
use Rattle.line_rules.specs.declared.entering.Entering.{Entering}
use Rattle.line_rules.specs.declared.entering.Entering.TheVariants.{Nothing, InTurn, Word as ByWord}
use Rattle.line_rules.specs.Entered.{AreFit, AreSound, IsFitIn, IsSound, IsSoundBefore}
use Rattle.line_rules.specs.Entering.{entered_by, entered_of, entering_of, key_of}
use Rattle.line_rules.specs.Faults.{IsFit, Keep, KeepsTo}
use Rattle.line_rules.specs.Known.{HasRow, IsDeclared, Known, entered, keys_of, version_after}
use Rattle.line_rules.specs.Names.{IsNameOf, IsNamed, name_demand}
use Rattle.line_rules.specs.Sections.{edition_of, section_after, section_of, version_by}
use Rattle.line_rules.specs.declared.edition.Edition.{Edition}
use Rattle.line_rules.specs.declared.edition.Edition.TheVariants.{Tells}
use Rattle.line_rules.specs.declared.edition.Version.{Version}
use Rattle.line_rules.specs.declared.edition.Version.TheVariants.{One, Two, Three}
use Rattle.line_rules.specs.declared.purpose.Purpose.{Purpose}
use Rattle.line_rules.specs.declared.purpose.Purpose.TheVariants.{Checking, Planning, Playing, Running}
use Rattle.line_rules.specs.declared.rule.Rule.{Rule}
use Rattle.line_rules.specs.declared.rule.Rule.TheVariants as rule
use Rattle.line_rules.specs.declared.section.Section.{Section}
use Rattle.line_rules.specs.declared.section.Section.TheVariants.{First}

-- ---- the rows of lines without a fault

some_words : (ws : List Word) → 0 < length (get_or ws 0 []) → 0 < length ws
some_words [] some = some
some_words (w ∷ ws) some = omega arith

-- a name where a new one stands, or one that is used
new_name : (version : Version) (w : Word) → MeetsDemand (name_demand version) (Some New) w → IsNameOf version w
new_name One w h = h
new_name Two w h = h
new_name Three w h = h

pub name_in : (version : Version) (place : Option Place) (w : Word)
    → (place ≡ Some New → IsNameOf version w) → ((kind : Kind) → place ≡ Some (Used kind) → IsNameOf version w)
    → MeetsDemand (name_demand version) place w
name_in One (Some New) w new used = new refl
name_in One (Some (Used kind)) w new used = used kind refl
name_in One place w new used = tt
name_in Two (Some New) w new used = new refl
name_in Two (Some (Used kind)) w new used = used kind refl
name_in Two place w new used = tt
name_in Three (Some New) w new used = new refl
name_in Three (Some (Used kind)) w new used = used kind refl
name_in Three place w new used = tt

-- each name is a long name
long_name : (w : Word) → IsName w → IsLongName w
long_name w h =
    (h.0, omega (arith, h.1), All-weaker IsNameByte IsLongNameByte (λ b is. inl is) w h.3)

pub long_of : (version : Version) (w : Word) → IsNameOf version w → IsLongName w
long_of One w h = long_name w h
long_of Two w h = long_name w h
long_of Three w h = h

long_in : (place : Option Place) (w : Word) → MeetsDemand Name place w → MeetsDemand LongName place w
long_in (Some New) w h = long_name w h
long_in (Some (Used kind)) w h = long_name w h
long_in place w h = tt

pub named_long : (version : Version) (s : Statement) → IsNamed version s → Meet LongName s.keyword s.words
named_long One s named i lt = long_in _ _ (named i lt)
named_long Two s named i lt = long_in _ _ (named i lt)
named_long Three s named i lt = named i lt

-- the first word of a line that declares it is a name
first_named : (version : Version) (s : Statement) → IsNamed version s → place_at s.keyword 0 ≡ Some New
    → 0 < length (get_or s.words 0 []) → IsNameOf version (get_or s.words 0 [])
first_named version s named new some =
    new_name version (get_or s.words 0 [])
    (subst (λ place. MeetsDemand (name_demand version) place (get_or s.words 0 [])) new
    (named 0 (some_words s.words some)))

key_sound : (version : Version) (s : Statement) → IsNamed version s → entering_of s.keyword ≢ InTurn
    → IsSound version (key_of s)
key_sound version s named entered = grind (arith, first_named)

entered_sound : (version : Version) (s : Statement) → IsNamed version s → (e : Entering)
    → entering_of s.keyword ≡ e → All (IsSound version) (keys_of (entered_by e s))
entered_sound version s named Nothing is = All-nil (IsSound version)
entered_sound version s named InTurn is = All-nil (IsSound version)
entered_sound version s named e is =
    All-cons (IsSound version) (key_of s) [] (key_sound version s named (λ turn. cc))
    (All-nil (IsSound version))

-- a line whose names are names is entered
pub sound_more : (version : Version) (rows : List Statement) (s : Statement) → AreSound version rows
    → IsNamed version s → AreSound version (rows ++ entered_of s)
sound_more version rows s sound named =
    subst (All (IsSound version)) (sym (map-append key_of rows (entered_of s)))
    (All-append (IsSound version) (keys_of rows) (keys_of (entered_of s)) sound
    (entered_sound version s named _ refl))

-- a line that tells the version is the first, and is not entered
tells_first : (purpose : Purpose) (k : Keyword) (section : Section) → edition_of k ≡ Tells
    → section_of purpose k ≡ Some section → (section ≡ First) × (entering_of k ≡ Nothing)
tells_first Checking k section tells stands = grind arith
tells_first Planning k section tells stands = grind arith
tells_first Playing k section tells stands = grind arith
tells_first Running k section tells stands = grind arith

never_first : (k : Keyword) → section_after k ≡ First → ⊥
never_first k is = grind arith

-- a line without a fault is entered
pub sound_entered : (k : Known) (s : Statement) → IsSoundBefore k.version k.section k.rows → IsFit k s
    → IsSoundBefore (version_after k.version s) (section_after s.keyword) (k.rows ++ entered_of s)
sound_entered k s has fit = record {
  sound = by (edition_of s.keyword) refl;
  none = λ is. absurd (never_first s.keyword is);
}
  where
    by : (e : Edition) → edition_of s.keyword ≡ e
        → AreSound (version_by e k.version s.words) (k.rows ++ entered_of s)
    by Tells is =
        let (first, none) = tells_first k.purpose s.keyword k.section is fit.may_stand.0 in
        let version : Version = version_by Tells k.version s.words in
        subst (λ (rows : List Statement). AreSound version (rows ++ entered_of s)) (sym (has.none first))
        (subst (λ (e : Entering). AreSound version (entered_by e s)) (sym none) (All-nil (IsSound version)))
    by e is = sound_more k.version k.rows s has.sound fit.named

-- ---- what they tell of the next line

row_named : (version : Version) (rows : List Statement) (k : Keyword) (w : Word) → AreSound version rows
    → entering_of k ≡ ByWord → place_at k 0 ≡ Some New → HasRow rows k w → 0 < length w → IsNameOf version w
row_named version rows k w sound by new there some =
    (All-contains (IsSound version) (keys_of rows) (k, w, []) sound there).named by new some

declared_named : (version : Version) (rows : List Statement) (kind : Kind) (w : Word) → AreSound version rows
    → IsDeclared rows kind w → 0 < length w → IsNameOf version w
declared_named version rows Priced w sound there some = grind (arith, row_named)
declared_named version rows kind w sound there some = row_named version rows _ w sound refl refl there some

fit_named_in : (version : Version) (rows : List Statement) (place : Option Place) (w : Word)
    → AreSound version rows → IsFitIn version rows place w → MeetsDemand (name_demand version) place w
fit_named_in version rows (Some New) w sound fit =
    name_in version (Some New) w (λ is. fit.0) (λ kind is. cc)
fit_named_in version rows (Some (Used kind)) w sound fit =
    name_in version (Some (Used kind)) w (λ is. cc) (λ other is. declared_named version rows kind w sound fit.1 fit.0)
fit_named_in version rows place w sound fit = name_in version place w (λ is. cc) (λ kind is. cc)

-- the names of a line whose words are fit are names
pub fit_named : (version : Version) (rows : List Statement) (s : Statement) → AreSound version rows
    → AreFit version rows s → IsNamed version s
fit_named version rows s sound fit i lt = fit_named_in version rows _ _ sound (fit i lt)

fit_keeps_in : (r : Rule) (version : Version) (rows : List Statement) (place : Option Place) (w : Word)
    → IsFitIn version rows place w → KeepsTo r rows place w
fit_keeps_in rule.Declared version rows (Some (Used kind)) w fit = fit.1
fit_keeps_in rule.Declared version rows place w fit = tt
fit_keeps_in rule.Free version rows (Some New) w fit = fit.1
fit_keeps_in rule.Free version rows place w fit = tt

-- and they keep to the rules
pub fit_keeps : (r : Rule) (version : Version) (rows : List Statement) (s : Statement) → AreFit version rows s
    → Keep r rows s
fit_keeps r version rows s fit i lt = fit_keeps_in r version rows _ _ (fit i lt)

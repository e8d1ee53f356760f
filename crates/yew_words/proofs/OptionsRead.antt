-- What the reader's steps come to.
use Rattle.std.proofs.Common.{◌≡◌, ◌≢◌, ℕ, suc, ◌+◌, ◌-◌, ◌<◌, ◌≤◌, true, false, List, [], ◌∷◌, ◌++◌, length, Option, Some, Result, Ok, Err, refl, sym, ap}
use Rattle.std.proofs.Common.{subst, ◌∙◌, append_assoc, get_or, take, drop, arith}
use Rattle.std.specs.Prelude.{IfErr, IsTrue, IsFalse, flat_map, slice_set, String, string_bytes}
use Rattle.std.specs.List.{list_all}
use Rattle.std.specs.Option.{option_to_list}
use Rattle.std.specs.declared.alloc.Global.{Global}
use Rattle.std.proofs.Math.Seq.{drop-cons}
use Rattle.std.proofs.lemmas.Bool.{both_ways}
use Rattle.std.proofs.lemmas.List.Concat.{flat_map-append}
use Rattle.std.proofs.lemmas.List.{append-nil, length-append, length-map, length-set, map-append, take-append-drop, take_all, length-take-le}
use Rattle.yew_words.specs.declared.plan.Usage.{Usage}
use Rattle.yew_words.specs.declared.plan.UsageKind.{UsageKind}
use Rattle.yew_words.specs.declared.plan.UsageKind.TheVariants.{Missing, Unknown, NotFile, Repeated, NotNumber, OutOfRange, NotHere}
use Rattle.yew_words.specs.declared.table.Head.{Head}
use Rattle.yew_words.specs.declared.table.Head.TheVariants.{Search, Make}
use Rattle.yew_words.specs.declared.plan.Made.TheVariants as made
use Rattle.yew_words.specs.declared.table.Problem.TheVariants as problems
use Rattle.yew_words.specs.declared.table.OptionName.{OptionName}
use Rattle.yew_words.specs.declared.table.Takes.{Takes}
use Rattle.yew_words.specs.declared.table.Takes.TheVariants.{Nothing}
use Rattle.yew_words.specs.declared.value.Value.{Value}
use Rattle.yew_words.specs.declared.settings.Settings.{Settings}
use Rattle.yew_words.specs.Word.{Word, texts, is_file_name}
use Rattle.yew_words.specs.Table.{Given, head_words, file_count, option_word, every_option, takes, is_for, required}
use Rattle.yew_words.specs.Plans.{Setting, setting_words, value_said, is_given, AreSettings, AreFiles}
use Rattle.yew_words.specs.Offences.{DueFile, DueOption, DueValue, words_before, IsBadValue, IsOffence, IsRefused, Offending}
use Rattle.yew_words.specs.Kept.{index_of, is_kept, Keeps, NamesOption, RefusesName, TakesValue, RefusesValue, TakesSetting, RefusesSetting}
use Rattle.yew_words.specs.Kept.{ReadsSettings}
use Rattle.yew_words.proofs.SettingsInOrder.{AreSettings-push}
use Rattle.yew_words.proofs.EachWordJudged.{AreNames}
use Rattle.yew_words.proofs.JudgedRightly.{list_all-true, all-list_all}
use Rattle.yew_words.proofs.JudgedWholly.{two_words}
use Rattle.yew_words.proofs.SettingsKept.{kept_given, Keeps-push, few_words}

-- ---- the files' names

abbrev Strings : Type 0
Strings = List (String Global)

pub few_files : (head : Head) → file_count head ≤ 8
few_files (Search problems.Knapsack coordination) = omega arith
few_files (Search _ coordination) = omega arith
few_files (Make made.Knapsack) = omega arith
few_files (Make _) = omega arith

-- the words end too early
pub file_missing : (head : Head) (words : Strings) (i : ℕ) → AreNames (texts (take i words)) → i ≤ length words → length words ≤ i → i < file_count head
    → Offending (head_words head ++ texts words) (3 + i) Missing
file_missing head words i names within ended few =
    let all : take i words ≡ words = take_all i words ended in
    let count : length (texts words) ≡ length words = length-map words string_bytes in
    record {
      due = DueFile head (texts words);
      rest = [];
      is_due = (omega arith, subst (λ (ws : Strings). AreNames (texts ws)) all names);
      words_are = sym (append-nil (head_words head ++ texts words));
      place_is = omega (arith, length-append (head_words head) (texts words), two_words head);
      is_refused = (refl, tt);
    }

-- a word that is no file's name
pub file_refused : (head : Head) (words : Strings) (i : ℕ) (word : String Global) → AreNames (texts (take i words)) → i < length words
    → get_or words i word ≡ word → i < file_count head → IsFalse (is_file_name (string_bytes word))
    → Offending (head_words head ++ texts words) (3 + i) NotFile
file_refused head words i word names within is few bad =
    let front = texts (take i words) in
    let behind = texts (drop (suc i) words) in
    let back : drop i words ≡ word ∷ drop (suc i) words = drop-cons words i word within ∙ ap (λ (w : String Global). w ∷ drop (suc i) words) is in
    let whole : texts words ≡ front ++ string_bytes word ∷ behind = ap texts (sym (take-append-drop i words))
    ∙ map-append string_bytes (take i words) (drop i words) ∙ ap (λ (ws : Strings). front ++ texts ws) back in
    let count : length front ≡ i = length-map (take i words) string_bytes ∙ length-take-le i words (omega arith) in
    record {
      due = DueFile head front;
      rest = string_bytes word ∷ behind;
      is_due = (omega arith, names);
      words_are = ap (λ (ws : List Word). head_words head ++ ws) whole ∙ sym (append_assoc (head_words head) front (string_bytes word ∷ behind));
      place_is = omega (arith, length-append (head_words head) front, two_words head);
      is_refused = bad;
    }

-- ---- an option

refused_name : (head : Head) (settings : Settings) (at : ℕ) (word : Word) (behind : List Word) (kind : UsageKind) → RefusesName head settings word kind
    → RefusesSetting head settings at (word ∷ behind) at kind
refused_name head settings at word behind kind refuses files given are_files are keeps at_is =
    record {
      due = DueOption head files given;
      rest = word ∷ behind;
      is_due = (are_files, are);
      words_are = refl;
      place_is = at_is;
      is_refused =
          offence kind refuses;
    }
  where
    offence : (kind : UsageKind) → RefusesName head settings word kind → IsOffence (DueOption head files given) word kind
    offence Unknown h = h
    offence NotHere h = (h.0, h.1, subst (λ (g : Given). IsFalse (is_for head g h.0)) (kept_given head settings given keeps) h.2)
    offence Repeated h = let now = kept_given head settings given keeps in
        (h.0, h.1, subst (λ (g : Given). IsTrue (is_for head g h.0)) now h.2, subst (λ (g : Given). IsTrue (g h.0)) now h.3)
    offence Missing h = absurd h
    offence NotFile h = absurd h
    offence NotNumber h = absurd h
    offence OutOfRange h = absurd h

takes_some : (t : Takes) (words : List Word) (kind : UsageKind) → RefusesValue t words kind → t ≢ Nothing
takes_some t [] kind h = h.1
takes_some t (word ∷ words) kind h = λ e. subst (λ (t : Takes). IsBadValue t word kind) e h

is_refused_value : (head : Head) (files : List Word) (given : List Setting) (name : OptionName) (words : List Word) (kind : UsageKind)
    → RefusesValue (takes head name) words kind → IsRefused (DueValue head files given name) words kind
is_refused_value head files given name [] kind h = (h.0, tt)
is_refused_value head files given name (word ∷ words) kind h = h

-- an option that may stand behind what is kept may stand behind what was given
new_name : (head : Head) (settings : Settings) (given : List Setting) → Keeps head settings given → (word : Word) (name : OptionName)
    → NamesOption head settings word name → IsTrue (is_for head (is_given given) name) × IsFalse (is_given given name)
new_name head settings given keeps word name names =
    subst (λ (g : Given). IsTrue (is_for head g name) × IsFalse (g name)) (kept_given head settings given keeps) (names.is_for_head, names.is_new)

refused_value : (head : Head) (settings : Settings) (at : ℕ) (word : Word) (behind : List Word) (name : OptionName) (kind : UsageKind)
    → NamesOption head settings word name → RefusesValue (takes head name) behind kind → RefusesSetting head settings at (word ∷ behind) (at + 1) kind
refused_value head settings at word behind name kind names refuses files given are_files are keeps at_is =
    let front = words_before (DueOption head files given) in
    let new = new_name head settings given keeps word name names in
    record {
      due = DueValue head files given name;
      rest = behind;
      is_due = (are_files, are, new.0, new.1, takes_some (takes head name) behind kind refuses);
      words_are = ap (λ (w : Word). front ++ w ∷ behind) names.word_is ∙ sym (append_assoc front (option_word name ∷ []) behind);
      place_is = omega (arith, length-append front (option_word name ∷ []));
      is_refused = is_refused_value head files given name behind kind refuses;
    }

-- a reader that gives the place and the kind gives the offence
pub name_refused : {A : Type 0} (r : Result A Usage) (head : Head) (settings : Settings) (at : ℕ) (word named : Word) (behind : List Word) → word ≡ named
    → IfErr r (λ usage. RefusesName head settings word usage.kind) → IfErr r (λ usage. usage.place ≡ at)
    → IfErr r (λ usage. RefusesSetting head settings at (named ∷ behind) usage.place usage.kind)
name_refused (Ok a) head settings at word named behind word_is kind place = tt
name_refused (Err usage) head settings at word named behind word_is kind place =
    subst (λ (w : Word). RefusesSetting head settings at (w ∷ behind) usage.place usage.kind) word_is
    (subst (λ (p : ℕ). RefusesSetting head settings at (word ∷ behind) p usage.kind) (sym place) (refused_name head settings at word behind usage.kind kind))

pub value_refused : {A : Type 0} (r : Result A Usage) (head : Head) (settings : Settings) (at : ℕ) (word named : Word) (behind : List Word)
    (name : OptionName) → word ≡ named → NamesOption head settings word name → IfErr r (λ usage. RefusesValue (takes head name) behind usage.kind)
    → IfErr r (λ usage. usage.place ≡ at + 1) → IfErr r (λ usage. RefusesSetting head settings at (named ∷ behind) usage.place usage.kind)
value_refused (Ok a) head settings at word named behind name word_is names kind place = tt
value_refused (Err usage) head settings at word named behind name word_is names kind place =
    subst (λ (w : Word). RefusesSetting head settings at (w ∷ behind) usage.place usage.kind) word_is
    (subst (λ (p : ℕ). RefusesSetting head settings at (word ∷ behind) p usage.kind) (sym place)
    (refused_value head settings at word behind name usage.kind names kind))

pub taken : (head : Head) (settings : Settings) (word : Word) (behind : List Word) (name : OptionName) (value : Value) (rest : List Word)
    → NamesOption head settings word name → TakesValue (takes head name) behind value rest → TakesSetting head settings (word ∷ behind) name value rest
taken head settings word behind name value rest names takes_value given are keeps =
    let s : Setting = record { name = name; value = takes_value.word } in
    let new = new_name head settings given keeps word name names in
    record {
      setting = s;
      are_settings = AreSettings-push head given s are (record { is_for_head = new.0; is_value = takes_value.is_value; is_new = new.1 });
      words_are = ap (λ (w : Word). w ∷ behind) names.word_is ∙ ap (λ (ws : List Word). option_word name ∷ ws) takes_value.words_are;
      is_new = new.1;
      name_is = refl;
      value_is = takes_value.value_is;
    }

-- ---- the options

-- Where the reader stands: the options so far are kept, the rest is to come, and its first word has this place.
pub record Reading (head : Head) (files words : List Word) (settings : Settings) (place : ℕ) (rest : List Word) : Type 0 where
  pub count : length settings.values ≡ length every_option
  pub given : List Setting
  pub are_settings : AreSettings head given
  pub keeps : Keeps head settings given
  pub words_are : words ≡ flat_map setting_words given ++ rest
  pub place_is : place ≡ suc (length (words_before (DueOption head files given)))

-- its place is small, since each option stands at most once
pub place_small : (head : Head) (files words : List Word) (settings : Settings) (place : ℕ) (rest : List Word) → AreFiles head files
    → Reading head files words settings place rest → place < 62
place_small head files words settings place rest are_files r =
    let front = head_words head ++ files in
    let count : length files ≡ file_count head = are_files.count in
    omega (
      arith,
      r.place_is,
      few_words head r.given r.are_settings,
      few_files head,
      two_words head,
      length-append (head_words head) files,
      length-append front (flat_map setting_words r.given),
    )

pub reading_goes_on : (head : Head) (files words : List Word) (old new : Settings) (place : ℕ) (rest : List Word) (name : OptionName) (value : Value)
    (left : List Word) → Reading head files words old place rest → TakesSetting head old rest name value left
    → new.values ≡ slice_set old.values (index_of name) (Some value) → Reading head files words new (place + (length rest - length left)) left
reading_goes_on head files words old new place rest name value left r takes_setting set =
    let more = takes_setting r.given r.are_settings r.keeps in
    let s = more.setting in
    let front = head_words head ++ files in
    let so_far = flat_map setting_words r.given in
    let longer : flat_map setting_words (r.given ++ s ∷ []) ≡ so_far ++ setting_words s = flat_map-push r.given s in
    let set_is : new.values ≡ slice_set old.values (index_of s.name) (Some (value_said (takes head s.name) s.value)) = set
    ∙ ap (λ (n : OptionName). slice_set old.values (index_of n) (Some value)) more.name_is
    ∙ ap (λ (v : Value). slice_set old.values (index_of s.name) (Some v)) more.value_is in
    record {
      count = ap (λ (vs : List (Option Value)). length vs) set ∙ length-set old.values (index_of name) (Some value) ∙ r.count;
      given = r.given ++ s ∷ [];
      are_settings = more.are_settings;
      keeps = Keeps-push head old new r.given s r.keeps more.is_new r.count set_is;
      words_are = r.words_are ∙ ap (λ (ws : List Word). so_far ++ ws) more.words_are ∙ sym (append_assoc so_far (setting_words s) left)
          ∙ ap (λ (ws : List Word). ws ++ left) (sym longer);
      place_is = omega (
        arith,
        r.place_is,
        ap (λ (ws : List Word). length ws) more.words_are,
        length-append (setting_words s) left,
        ap (λ (ws : List Word). length (front ++ ws)) longer,
        length-append front so_far,
        length-append front (so_far ++ setting_words s),
        length-append so_far (setting_words s),
      );
    }
  where
    flat_map-push : (given : List Setting) (s : Setting) → flat_map setting_words (given ++ s ∷ []) ≡ flat_map setting_words given ++ setting_words s
    flat_map-push given s = flat_map-append setting_words given (s ∷ [])
        ∙ ap (λ (ws : List Word). flat_map setting_words given ++ ws) (append-nil (setting_words s))

-- a turn of the reader
pub reading_step : (head : Head) (files words : List Word) (old new : Settings) (place : ℕ) (rest : Strings) (word : String Global) (behind left : Strings)
    (name : OptionName) (value : Value) → Reading head files words old place (texts rest) → rest ≡ word ∷ behind
    → TakesSetting head old (string_bytes word ∷ texts behind) name value (texts left) → new.values ≡ slice_set old.values (index_of name) (Some value)
    → Reading head files words new (place + (length rest - length left)) (texts left)
reading_step head files words old new place rest word behind left name value r rest_is takes_setting set =
    let takes_rest : TakesSetting head old (texts rest) name value (texts left) =
    subst (λ (ws : List Word). TakesSetting head old ws name value (texts left)) (sym (ap texts rest_is)) takes_setting in
    let place_is : place + (length (texts rest) - length (texts left)) ≡ place + (length rest - length left) =
    omega (arith, length-map rest string_bytes, length-map left string_bytes) in
    subst (λ (p : ℕ). Reading head files words new p (texts left)) place_is
    (reading_goes_on head files words old new place (texts rest) name value (texts left) r takes_rest set)

-- takes a word at least
pub reading_shrinks : (head : Head) (files words : List Word) (old : Settings) (place : ℕ) (rest : Strings) (word : String Global) (behind left : Strings)
    (name : OptionName) (value : Value) → Reading head files words old place (texts rest) → rest ≡ word ∷ behind
    → TakesSetting head old (string_bytes word ∷ texts behind) name value (texts left) → length left < length rest
reading_shrinks head files words old place rest word behind left name value r rest_is takes_setting =
    let more = takes_setting r.given r.are_settings r.keeps in
    let s = more.setting in
    let whole : texts rest ≡ option_word s.name ∷ option_to_list s.value ++ texts left = ap texts rest_is ∙ more.words_are in
    omega (
      arith,
      ap (λ (ws : List Word). length ws) whole,
      length-append (option_to_list s.value) (texts left),
      length-map rest string_bytes,
      length-map left string_bytes,
    )

pub no_words : (words : Strings) → length words ≡ 0 → texts words ≡ []
no_words [] e = refl
no_words (word ∷ words) e = absurd (omega arith)

-- at the end
all_words : (words rest so_far : List Word) → words ≡ so_far ++ rest → rest ≡ [] → words ≡ so_far
all_words words rest so_far e ended = e ∙ ap (λ (ws : List Word). so_far ++ ws) ended ∙ append-nil so_far

-- the required options are those that the settings leave, and are kept where they were given
required_kept : (head : Head) (settings : Settings) (given : List Setting) → Keeps head settings given
    → list_all (is_kept settings) (required head (is_kept settings)) ≡ list_all (is_given given) (required head (is_given given))
required_kept head settings given keeps = ap (λ (g : Given). list_all g (required head g)) (kept_given head settings given keeps)

pub reading_missing : (head : Head) (files words : List Word) (settings : Settings) (place : ℕ) (rest : List Word) → AreFiles head files
    → Reading head files words settings place rest → rest ≡ [] → list_all (is_kept settings) (required head (is_kept settings)) ≡ false
    → Offending (head_words head ++ files ++ words) place Missing
reading_missing head files words settings place rest are_files r ended absent =
    let front = head_words head ++ files in
    let names = required head (is_given r.given) in
    record {
      due = DueOption head files r.given;
      rest = [];
      is_due = (are_files, r.are_settings);
      words_are = ap (λ (ws : List Word). front ++ ws) (all_words words rest (flat_map setting_words r.given) r.words_are ended)
          ∙ sym (append-nil (words_before (DueOption head files r.given)));
      place_is = r.place_is;
      is_refused = (
        refl,
        λ has. both_ways (list_all (is_given r.given) names) (sym (required_kept head settings r.given r.keeps) ∙ absent)
            (all-list_all (is_given r.given) names has),
      );
    }

pub reading_ends : (head : Head) (files words : List Word) (settings : Settings) (place : ℕ) (rest : List Word) → Reading head files words settings place rest
    → rest ≡ [] → list_all (is_kept settings) (required head (is_kept settings)) ≡ true → ReadsSettings head words settings
reading_ends head files words settings place rest r ended all = record {
  given = r.given;
  words_are = all_words words rest (flat_map setting_words r.given) r.words_are ended;
  are_settings = r.are_settings;
  has_required = list_all-true (is_given r.given) (required head (is_given r.given)) (sym (required_kept head settings r.given r.keeps) ∙ all);
  keeps = r.keeps;
}

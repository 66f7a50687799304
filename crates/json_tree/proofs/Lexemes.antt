-- The texts of the tokens of a text are UTF-8.
use Rattle.std.proofs.Common.{◌≡◌, ℕ, Bool, true, false, cond, ◌==◌, ◌&&◌, ◌-◌, nat_eq, length, take, drop, List, [], ◌∷◌, ◌++◌, Option, Some, None, IsUtf8, refl, sym, subst, arith, append_assoc, eqb-true}
use Rattle.std.specs.Prelude.{⊤, IfSome}
use Rattle.std.specs.List.{starts_with}
use Rattle.json.specs.Ascii as ascii
use Rattle.json.specs.Text.{content, plain}
use Rattle.json.specs.Token.{Token, begin_object, end_object, begin_array, end_array, key, string, number, boolean, null, bad}
use Rattle.json.specs.Word.{head, is_operator, is_space, ends_word, after_number, number_before, literal, word}
use Rattle.json.specs.Lex.{Lexeme, token, comma, colon, Class, quote, backslash, operator, space, other, class, operator_lexeme, string_token, Mode, between, in_word, in_string, in_escape, lex_byte, lex, Place, fresh, after_value, after_comma, after_key, begins_colon, may_begin, may_close, if_allowed, place_token, punctuate, tokens}
use Rattle.json_tree.proofs.Contents.{parted, content-IsText}

abbrev pub HasText : Token → Type 0
HasText begin_object = ⊤
HasText end_object = ⊤
HasText begin_array = ⊤
HasText end_array = ⊤
HasText (key s) = IsUtf8 s
HasText (string s) = IsUtf8 s
HasText (number s) = ⊤
HasText (boolean b) = ⊤
HasText null = ⊤
HasText bad = ⊤

abbrev pub HaveTexts : List Token → Type 0
HaveTexts [] = ⊤
HaveTexts (t ∷ ts) = HasText t × HaveTexts ts

abbrev Spells : Lexeme → Type 0
Spells (token t) = HasText t
Spells comma = ⊤
Spells colon = ⊤

abbrev Spell : List Lexeme → Type 0
Spell [] = ⊤
Spell (l ∷ ls) = Spells l × Spell ls

-- ---- lexemes

or_bad : (good : Bool) (t : Token) → HasText t → HasText (cond good t bad)
or_bad true t h = h
or_bad false t h = tt

first_of_four : (a b c : Bool) (t u v w : Token) → HasText t → HasText u → HasText v → HasText w → HasText (cond a t (cond b u (cond c v w)))
first_of_four true b c t u v w f g h k = f
first_of_four false true c t u v w f g h k = g
first_of_four false false true t u v w f g h k = h
first_of_four false false false t u v w f g h k = k

number_text : (t : List ℕ) (after : Option (List ℕ)) → HasText (number_before t after)
number_text t None = tt
number_text t (Some rest) = or_bad (ends_word rest) (number (take (length t - length rest) t)) tt

literal_text : (name : List ℕ) (t : Token) (text : List ℕ) → HasText t → HasText (literal name t text)
literal_text name t text h = or_bad (starts_with nat_eq text name && ends_word (drop (length name) text)) t h

word_text : (t : List ℕ) → HasText (word t)
unfolding word
word_text t =
    first_of_four (head t == ascii.lower_t) (head t == ascii.lower_f) (head t == ascii.lower_n)
    (literal ascii.true_text (boolean true) t) (literal ascii.false_text (boolean false) t) (literal ascii.null_text null t) (number_before t (after_number t))
    (literal_text ascii.true_text (boolean true) t tt) (literal_text ascii.false_text (boolean false) t tt) (literal_text ascii.null_text null t tt) (number_text t (after_number t))

operator_text : (x : ℕ) → Spells (operator_lexeme x)
operator_text x = choose (x == ascii.open_brace) (x == ascii.close_brace) (x == ascii.open_bracket) (x == ascii.close_bracket) (x == ascii.comma)
  where
    choose : (a b c d e : Bool) → Spells (cond a (token begin_object) (cond b (token end_object) (cond c (token begin_array) (cond d (token end_array) (cond e comma colon)))))
    choose true b c d e = tt
    choose false true c d e = tt
    choose false false true d e = tt
    choose false false false true e = tt
    choose false false false false true = tt
    choose false false false false false = tt

string_text : (read : Option (List ℕ)) → IfSome read IsUtf8 → HasText (string_token read)
string_text None h = tt
string_text (Some s) h = h

quoted : (q b o s : Bool) → cond q quote (cond b backslash (cond o operator (cond s space other))) ≡ quote → q ≡ true
quoted true b o s e = refl
quoted false true o s e = absurd cc
quoted false false true s e = absurd cc
quoted false false false true e = absurd cc
quoted false false false false e = absurd cc

byte_spells : (front : List ℕ) (m : Mode) (c : Class) (x : ℕ) (xs : List ℕ) → class x ≡ c → IsUtf8 (front ++ x ∷ xs) → ((next : Mode) → Spell (lex next xs)) → Spell (lex_byte m c x xs (λ next. lex next xs))
byte_spells front between quote x xs is u each =
    let mark : x ≡ 34 = eqb-true x 34 (quoted (x == 34) (x == 92) (is_operator x) (is_space x) is) in
    (string_text (content plain xs) (content-IsText plain [] xs (parted front x xs (omega (arith, mark)) u).1), each in_string)
byte_spells front between backslash x xs is u each = (tt, each in_word)
byte_spells front between operator x xs is u each = (operator_text x, each between)
byte_spells front between space x xs is u each = each between
byte_spells front between other x xs is u each = (word_text (x ∷ xs), each in_word)
byte_spells front in_word quote x xs is u each = each in_word
byte_spells front in_word backslash x xs is u each = each in_word
byte_spells front in_word operator x xs is u each = (operator_text x, each between)
byte_spells front in_word space x xs is u each = each between
byte_spells front in_word other x xs is u each = each in_word
byte_spells front in_string quote x xs is u each = each between
byte_spells front in_string backslash x xs is u each = each in_escape
byte_spells front in_string operator x xs is u each = each in_string
byte_spells front in_string space x xs is u each = each in_string
byte_spells front in_string other x xs is u each = each in_string
byte_spells front in_escape c x xs is u each = each in_string

lex_spells : (front xs : List ℕ) → IsUtf8 (front ++ xs) → (m : Mode) → Spell (lex m xs)
unfolding lex
lex_spells front [] u m = tt
lex_spells front (x ∷ xs) u m = byte_spells front m (class x) x xs refl u (lex_spells (front ++ x ∷ []) xs (subst IsUtf8 (sym (append_assoc front (x ∷ []) xs)) u))

-- ---- tokens

if_allowed_texts : (allowed : Bool) (t : Token) (next : Place → List Token) (p : Place) → HasText t → HaveTexts (next p) → HaveTexts (if_allowed allowed t next p)
if_allowed_texts true t next p h rest = (h, rest)
if_allowed_texts false t next p h rest = (tt, tt)

place_texts : (p : Place) (t : Token) (named : Bool) (next : Place → List Token) → HasText t → ((q : Place) → HaveTexts (next q)) → HaveTexts (place_token p t named next)
place_texts p begin_object named next h rest = if_allowed_texts (may_begin p) begin_object next fresh tt (rest fresh)
place_texts p end_object named next h rest = if_allowed_texts (may_close p) end_object next after_value tt (rest after_value)
place_texts p begin_array named next h rest = if_allowed_texts (may_begin p) begin_array next fresh tt (rest fresh)
place_texts p end_array named next h rest = if_allowed_texts (may_close p) end_array next after_value tt (rest after_value)
place_texts p (key s) named next h rest = (tt, tt)
place_texts p (string s) true next h rest = if_allowed_texts (may_begin p) (key s) next after_key h (rest after_key)
place_texts p (string s) false next h rest = if_allowed_texts (may_begin p) (string s) next after_value h (rest after_value)
place_texts p (number s) named next h rest = if_allowed_texts (may_begin p) (number s) next after_value tt (rest after_value)
place_texts p (boolean b) named next h rest = if_allowed_texts (may_begin p) (boolean b) next after_value tt (rest after_value)
place_texts p null named next h rest = if_allowed_texts (may_begin p) null next after_value tt (rest after_value)
place_texts p bad named next h rest = (tt, tt)

punctuate_texts : (ls : List Lexeme) → Spell ls → (p : Place) → HaveTexts (punctuate p ls)
unfolding punctuate
punctuate_texts [] h fresh = tt
punctuate_texts [] h after_value = tt
punctuate_texts [] h after_comma = (tt, tt)
punctuate_texts [] h after_key = (tt, tt)
punctuate_texts (token t ∷ ls) h fresh = place_texts fresh t (begins_colon ls) _ h.0 (punctuate_texts ls h.1)
punctuate_texts (token t ∷ ls) h after_value = place_texts after_value t (begins_colon ls) _ h.0 (punctuate_texts ls h.1)
punctuate_texts (token t ∷ ls) h after_comma = place_texts after_comma t (begins_colon ls) _ h.0 (punctuate_texts ls h.1)
punctuate_texts (token t ∷ ls) h after_key = place_texts after_key t (begins_colon ls) _ h.0 (punctuate_texts ls h.1)
punctuate_texts (comma ∷ ls) h fresh = (tt, tt)
punctuate_texts (comma ∷ ls) h after_value = punctuate_texts ls h.1 after_comma
punctuate_texts (comma ∷ ls) h after_comma = (tt, tt)
punctuate_texts (comma ∷ ls) h after_key = (tt, tt)
punctuate_texts (colon ∷ ls) h fresh = (tt, tt)
punctuate_texts (colon ∷ ls) h after_value = (tt, tt)
punctuate_texts (colon ∷ ls) h after_comma = (tt, tt)
punctuate_texts (colon ∷ ls) h after_key = punctuate_texts ls h.1 fresh

pub tokens-texts : (text : List ℕ) → IsUtf8 text → HaveTexts (tokens text)
tokens-texts text u = punctuate_texts (lex between text) (lex_spells [] text u between) fresh

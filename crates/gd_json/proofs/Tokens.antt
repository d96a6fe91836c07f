-- The strings and keys among the tokens of a text in UTF-8 are UTF-8.
use Rattle.std.proofs.Common.{◌≡◌, ℕ, List, [], ◌∷◌, ◌++◌, Bool, true, false, cond, Option, Some, None, refl, sym, subst, arith, append_assoc}
use Rattle.std.specs.Prelude.{nat_eq}
use Rattle.std.specs.Str.{IsUtf8}
use Rattle.std.proofs.lemmas.Bool.{eqb-true}
use Rattle.json.specs.Token.{Token, begin_object, end_object, begin_array, end_array, key, string, number, boolean, null, bad}
use Rattle.json.specs.Text.{content, plain}
use Rattle.json.specs.Word.{is_operator, is_space, head, ends_word, after_number, number_before, word}
use Rattle.json.specs.Lex.{Lexeme, token, comma, colon, Class, quote, backslash, operator, space, other, class, operator_lexeme, string_token, Mode, between, in_word, in_string, in_escape, lex_byte, lex, Place, fresh, after_value, after_comma, after_key, begins_colon, may_begin, may_close, if_allowed, place_token, punctuate, tokens}
use Rattle.gd_json.proofs.Content.{cut, string-utf8}

-- a string is UTF-8, and so is a key
abbrev pub TokenFits : Token → Type 0
TokenFits (string s) = IsUtf8 s
TokenFits begin_object = Unit {0}
TokenFits end_object = Unit {0}
TokenFits begin_array = Unit {0}
TokenFits end_array = Unit {0}
TokenFits (key s) = IsUtf8 s
TokenFits (number s) = Unit {0}
TokenFits (boolean b) = Unit {0}
TokenFits null = Unit {0}
TokenFits bad = Unit {0}

abbrev pub TokensFit : List Token → Type 0
TokensFit [] = Unit {0}
TokensFit (t ∷ ts) = TokenFits t × TokensFit ts

abbrev LexemeFits : Lexeme → Type 0
LexemeFits (token t) = TokenFits t
LexemeFits comma = Unit {0}
LexemeFits colon = Unit {0}

abbrev LexemesFit : List Lexeme → Type 0
LexemesFit [] = Unit {0}
LexemesFit (l ∷ ls) = LexemeFits l × LexemesFit ls

-- ---- lexemes

token_of : (b : Bool) (t u : Token) → TokenFits t → TokenFits u → TokenFits (cond b t u)
token_of true t u one two = one
token_of false t u one two = two

lexeme_of : (b : Bool) (t u : Lexeme) → LexemeFits t → LexemeFits u → LexemeFits (cond b t u)
lexeme_of true t u one two = one
lexeme_of false t u one two = two

operator-fits : (x : ℕ) → LexemeFits (operator_lexeme x)
operator-fits x = lexeme_of (nat_eq x 123) (token begin_object) _ tt (lexeme_of (nat_eq x 125) (token end_object) _ tt (lexeme_of (nat_eq x 91) (token begin_array) _ tt
    (lexeme_of (nat_eq x 93) (token end_array) _ tt (lexeme_of (nat_eq x 44) comma colon tt tt))))

number-fits : (t : List ℕ) (o : Option (List ℕ)) → TokenFits (number_before t o)
number-fits t None = tt
number-fits t (Some rest) = token_of (ends_word rest) _ bad tt tt

word-fits : (t : List ℕ) → TokenFits (word t)
unfolding word
word-fits t = token_of (nat_eq (head t) 116) _ _ (token_of _ (boolean true) bad tt tt) (token_of (nat_eq (head t) 102) _ _ (token_of _ (boolean false) bad tt tt)
    (token_of (nat_eq (head t) 110) _ _ (token_of _ null bad tt tt) (number-fits t (after_number t))))

quote-is : (x : ℕ) → class x ≡ quote → x ≡ 34
quote-is x is = by (nat_eq x 34) refl is
  where
    by_rest : (a b c : Bool) → cond a backslash (cond b operator (cond c space other)) ≡ quote → x ≡ 34
    by_rest true b c is = absurd (cc)
    by_rest false true c is = absurd (cc)
    by_rest false false true is = absurd (cc)
    by_rest false false false is = absurd (cc)

    by : (b : Bool) → nat_eq x 34 ≡ b → cond b quote (cond (nat_eq x 92) backslash (cond (is_operator x) operator (cond (is_space x) space other))) ≡ quote → x ≡ 34
    by true b_is is = eqb-true x 34 b_is
    by false b_is is = by_rest (nat_eq x 92) (is_operator x) (is_space x) is

string-fits : (xs : List ℕ) → IsUtf8 xs → (o : Option (List ℕ)) → content plain xs ≡ o → TokenFits (string_token o)
string-fits xs utf8 None is = tt
string-fits xs utf8 (Some s) is = string-utf8 xs s utf8 is

byte-fits : (pre : List ℕ) (m : Mode) (c : Class) (x : ℕ) (xs : List ℕ) (k : Mode → List Lexeme) → class x ≡ c → IsUtf8 (pre ++ x ∷ xs) → ((next : Mode) → LexemesFit (k next)) → LexemesFit (lex_byte m c x xs k)
byte-fits pre between quote x xs k is utf8 later = let at = quote-is x is in (string-fits xs (cut pre x xs (omega arith) utf8).behind (content plain xs) refl, later in_string)
byte-fits pre between backslash x xs k is utf8 later = (tt, later in_word)
byte-fits pre between operator x xs k is utf8 later = (operator-fits x, later between)
byte-fits pre between space x xs k is utf8 later = later between
byte-fits pre between other x xs k is utf8 later = (word-fits (x ∷ xs), later in_word)
byte-fits pre in_word quote x xs k is utf8 later = later in_word
byte-fits pre in_word backslash x xs k is utf8 later = later in_word
byte-fits pre in_word operator x xs k is utf8 later = (operator-fits x, later between)
byte-fits pre in_word space x xs k is utf8 later = later between
byte-fits pre in_word other x xs k is utf8 later = later in_word
byte-fits pre in_string quote x xs k is utf8 later = later between
byte-fits pre in_string backslash x xs k is utf8 later = later in_escape
byte-fits pre in_string operator x xs k is utf8 later = later in_string
byte-fits pre in_string space x xs k is utf8 later = later in_string
byte-fits pre in_string other x xs k is utf8 later = later in_string
byte-fits pre in_escape quote x xs k is utf8 later = later in_string
byte-fits pre in_escape backslash x xs k is utf8 later = later in_string
byte-fits pre in_escape operator x xs k is utf8 later = later in_string
byte-fits pre in_escape space x xs k is utf8 later = later in_string
byte-fits pre in_escape other x xs k is utf8 later = later in_string

lex-fits : (pre : List ℕ) (m : Mode) (xs : List ℕ) → IsUtf8 (pre ++ xs) → LexemesFit (lex m xs)
unfolding lex
lex-fits pre m [] utf8 = tt
lex-fits pre m (x ∷ xs) utf8 = byte-fits pre m (class x) x xs (λ next. lex next xs) refl utf8 (λ next. lex-fits (pre ++ x ∷ []) next xs (subst IsUtf8 (sym (append_assoc pre (x ∷ []) xs)) utf8))

-- ---- tokens

allowed-fits : (b : Bool) (t : Token) (k : Place → List Token) (next : Place) → TokenFits t → TokensFit (k next) → TokensFit (if_allowed b t k next)
allowed-fits true t k next fits later = (fits, later)
allowed-fits false t k next fits later = (tt, tt)

placed-fits : (p : Place) (t : Token) (b : Bool) (k : Place → List Token) → TokenFits t → ((next : Place) → TokensFit (k next)) → TokensFit (place_token p t b k)
placed-fits p begin_object b k fits later = allowed-fits (may_begin p) begin_object k fresh tt (later fresh)
placed-fits p end_object b k fits later = allowed-fits (may_close p) end_object k after_value tt (later after_value)
placed-fits p begin_array b k fits later = allowed-fits (may_begin p) begin_array k fresh tt (later fresh)
placed-fits p end_array b k fits later = allowed-fits (may_close p) end_array k after_value tt (later after_value)
placed-fits p (key s) b k fits later = (tt, tt)
placed-fits p (string s) true k fits later = allowed-fits (may_begin p) (key s) k after_key fits (later after_key)
placed-fits p (string s) false k fits later = allowed-fits (may_begin p) (string s) k after_value fits (later after_value)
placed-fits p (number s) b k fits later = allowed-fits (may_begin p) (number s) k after_value tt (later after_value)
placed-fits p (boolean c) b k fits later = allowed-fits (may_begin p) (boolean c) k after_value tt (later after_value)
placed-fits p null b k fits later = allowed-fits (may_begin p) null k after_value tt (later after_value)
placed-fits p bad b k fits later = (tt, tt)

punctuated-fits : (p : Place) (ls : List Lexeme) → LexemesFit ls → TokensFit (punctuate p ls)
unfolding punctuate
punctuated-fits fresh [] fits = tt
punctuated-fits after_value [] fits = tt
punctuated-fits after_comma [] fits = (tt, tt)
punctuated-fits after_key [] fits = (tt, tt)
punctuated-fits fresh (token t ∷ ls) fits = placed-fits fresh t (begins_colon ls) (λ next. punctuate next ls) fits.0 (λ next. punctuated-fits next ls fits.1)
punctuated-fits after_value (token t ∷ ls) fits = placed-fits after_value t (begins_colon ls) (λ next. punctuate next ls) fits.0 (λ next. punctuated-fits next ls fits.1)
punctuated-fits after_comma (token t ∷ ls) fits = placed-fits after_comma t (begins_colon ls) (λ next. punctuate next ls) fits.0 (λ next. punctuated-fits next ls fits.1)
punctuated-fits after_key (token t ∷ ls) fits = placed-fits after_key t (begins_colon ls) (λ next. punctuate next ls) fits.0 (λ next. punctuated-fits next ls fits.1)
punctuated-fits fresh (comma ∷ ls) fits = (tt, tt)
punctuated-fits after_value (comma ∷ ls) fits = punctuated-fits after_comma ls fits.1
punctuated-fits after_comma (comma ∷ ls) fits = (tt, tt)
punctuated-fits after_key (comma ∷ ls) fits = (tt, tt)
punctuated-fits fresh (colon ∷ ls) fits = (tt, tt)
punctuated-fits after_value (colon ∷ ls) fits = (tt, tt)
punctuated-fits after_comma (colon ∷ ls) fits = (tt, tt)
punctuated-fits after_key (colon ∷ ls) fits = punctuated-fits fresh ls fits.1

pub tokens-fit : (text : List ℕ) → IsUtf8 text → TokensFit (tokens text)
tokens-fit text utf8 = punctuated-fits fresh (lex between text) (lex-fits [] between text utf8)

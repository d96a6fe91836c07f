-- Ids: keys, guids, the walk down a path and the walk up from an object.
use Rattle.std.specs.Prelude.{ℕ, zero, suc, ◌+◌, ◌*◌, ◌-◌, List, [], ◌∷◌, ◌++◌, length, take, drop, unwrap_or, Bool, ◌&&◌, ◌||◌, ◌==◌, nat_le, Option, Some, None, is_some, find, if◌then◌else◌, codes, bytes_eq}
use Rattle.std.specs.Char.{is_ascii_digit, is_ascii_alphanumeric}
use Rattle.std.specs.Int.{is_in_range}
use Rattle.std.specs.List.{list_all, last_or, slice_split}
use Rattle.std.specs.Option.{option_or}
use Rattle.gd_grammar.specs.Maybe.{◌>>=◌}
use Rattle.gd_tree.specs.Hex.{hex}
use Rattle.gd_prim.specs.declared.Primitive.{Primitive}
use Rattle.gd_prim.specs.Builtin.{root_place}
use Rattle.gd_prim.specs.Live.{is_object, is_live, places_where, value_at, end_at, text_of}
pub use Rattle.gd_prim.specs.Keys.{is_key_link, is_key_of}

-- ---- keys

-- a byte of a key: an ASCII letter, a digit, `_`, `-` or `$`
abbrev pub is_key_byte : ℕ → Bool
is_key_byte c = is_ascii_alphanumeric c || c == 95 || c == 45 || c == 36

-- the text is a key: 1 to 64 bytes of keys
abbrev pub is_key : List ℕ → Bool
is_key text = is_in_range 1 64 (length text) && list_all is_key_byte text

-- the byte is a slash
abbrev pub is_slash : ℕ → Bool
is_slash c = c == 47

-- the keys of a path: one key or more, each behind a slash
abbrev pub path_keys : List ℕ → Option (List (List ℕ))
path_keys [] = None
path_keys (c ∷ text) = if is_slash c && list_all is_key (slice_split is_slash text) then Some (slice_split is_slash text) else None

-- the keys of an id that is no guid: none for `/`, else 1 to 16
abbrev pub id_keys : List ℕ → Option (List (List ℕ))
id_keys text = if bytes_eq text (codes "/") then Some [] else path_keys text >>= λ keys. if nat_le (length keys) 16 then Some keys else None

-- ---- guids

-- the guid of a place
abbrev pub guid : ℕ → List ℕ
guid place = codes "#0000000000000001" ++ hex 16 place

-- the value of a lower-case hexadecimal digit
abbrev pub hex_value : ℕ → Option ℕ
hex_value c = if is_ascii_digit c then Some (c - 48) else if is_in_range 97 102 c then Some (c - 87) else None

-- the number that hexadecimal digits spell behind a front of value n
abbrev pub hex_number : ℕ → List ℕ → Option ℕ
hex_number n [] = Some n
hex_number n (c ∷ cs) = hex_value c >>= λ d. hex_number (16 * n + d) cs

-- the place whose guid a text is
abbrev pub guid_place : List ℕ → Option ℕ
guid_place text = hex_number 0 (drop 17 text) >>= λ place. if bytes_eq (guid place) text then Some place else None

-- the text is an id: `/`, 1 to 16 keys each behind a slash, or a guid
abbrev pub is_id : List ℕ → Bool
is_id text = is_some (id_keys text) || is_some (guid_place text)

-- ---- from a text to an object

-- a place, if an object is there
abbrev pub object_at : List Primitive → ℕ → Option ℕ
object_at prims place = if is_object prims place then Some place else None

-- the object that a key in a namespace leads to: the left end of the last link of that key into that namespace, if the link is live and the end an object
abbrev pub key_leads : List Primitive → ℕ → List ℕ → Option ℕ
key_leads prims namespace key = last_or None (places_where (is_key_link namespace key) prims) >>= λ k.
    if is_live prims k then (end_at (λ p. p.left) prims k >>= object_at prims) else None

-- the object that keys lead to, one after another, each in the object that the one before leads to
abbrev pub follow : List Primitive → ℕ → List (List ℕ) → Option ℕ
follow prims place [] = Some place
follow prims place (key ∷ keys) = key_leads prims place key >>= λ next. follow prims next keys

-- the object that an id text names: that of a guid, or the one to which the keys lead from the root
abbrev pub object_of : List Primitive → List ℕ → Option ℕ
object_of prims text = option_or (guid_place text >>= object_at prims) (id_keys text >>= follow prims root_place)

-- ---- from an object to its text

-- the key link by which an object is named: of its first eight the first one that is live and has a namespace
abbrev pub naming_link : List Primitive → ℕ → Option ℕ
naming_link prims o = find (λ k. is_live prims k && is_some (end_at (λ p. p.right) prims k)) (take 8 (places_where (is_key_of o) prims))

-- the keys from the root down to an object, in front of a text, if at most so many steps lead up to the root
abbrev pub path_up : List Primitive → ℕ → ℕ → List ℕ → Option (List ℕ)
path_up prims zero o text = if o == root_place then Some text else None
path_up prims (suc steps) o text = if o == root_place then Some text else naming_link prims o >>= λ k. text_of (value_at prims k) >>= λ key.
    end_at (λ p. p.right) prims k >>= λ namespace. path_up prims steps namespace (codes "/" ++ key ++ text)

-- the id of an object: `/` for the root, its path, or its guid where it has no path
abbrev pub id_text : List Primitive → ℕ → List ℕ
id_text prims o = if o == root_place then codes "/" else unwrap_or (path_up prims 16 o []) (guid o)

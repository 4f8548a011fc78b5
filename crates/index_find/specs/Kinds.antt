-- What a token is.
use Rattle.std.specs.Prelude.{if◌then◌else◌, codes}
use Rattle.std.specs.Str.{bytes_eq}
use Rattle.index_find.specs.Grammar.{Token, is_word}
use Rattle.index_find.specs.declared.token.Kind.{Kind}
use Rattle.index_find.specs.declared.token.Kind.TheVariants as kind

abbrev pub kind_of : Token → Kind
kind_of t = if is_word t then kind.Word
    else (if bytes_eq t (codes "!") then kind.Not
    else (if bytes_eq t (codes "&") then kind.Both
    else (if bytes_eq t (codes "|") then kind.Either
    else (if bytes_eq t (codes "(") then kind.Open
    else (if bytes_eq t (codes ")") then kind.Close
    else kind.Other)))))

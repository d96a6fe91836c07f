-- What is said of an outcome by several facts.
use Rattle.std.proofs.Common.{Result, Ok, Err, IfOk, IfErr, OnErr, MatchResult}

pub ok_all : {A E : Type 0} (result : Result A E) (P R S : A → Type 0) (Y : E → Type 0) → ((a : A) → P a → R a → S a) → IfOk result P → MatchResult result R Y → IfOk result S
ok_all (Ok a) P R S Y says p r = says a p r
ok_all (Err e) P R S Y says p r = tt

pub err_all : {A E : Type 0} (result : Result A E) (X : A → Type 0) (P Q R S : E → Type 0) → ((e : E) → P e → Q e → R e → S e) → IfErr result P → IfErr result Q → MatchResult result X R → IfErr result S
err_all (Ok a) X P Q R S says p q r = tt
err_all (Err e) X P Q R S says p q r = says e p q r

pub err_more : {A E : Type 0} (result : Result A E) (P Q : E → Type 0) → ((e : E) → P e → Q e) → IfErr result P → IfErr result Q
err_more (Ok a) P Q says p = tt
err_more (Err e) P Q says p = says e p

pub err_two : {A E : Type 0} (result : Result A E) (P Q R : E → Type 0) → ((e : E) → P e → Q e → R e) → IfErr result P → IfErr result Q → IfErr result R
err_two (Ok a) P Q R says p q = tt
err_two (Err e) P Q R says p q = says e p q

pub ok_more : {A E : Type 0} (result : Result A E) (P Q : A → Type 0) → ((a : A) → P a → Q a) → IfOk result P → IfOk result Q
ok_more (Ok a) P Q says p = says a p
ok_more (Err e) P Q says p = tt

pub ok_two : {A E : Type 0} (result : Result A E) (P Q R : A → Type 0) → ((a : A) → P a → Q a → R a) → IfOk result P → IfOk result Q → IfOk result R
ok_two (Ok a) P Q R says p q = says a p q
ok_two (Err e) P Q R says p q = tt

pub err_three : {A E : Type 0} (result : Result A E) (P Q R S : E → Type 0) → ((e : E) → P e → Q e → R e → S e) → IfErr result P → IfErr result Q → IfErr result R → IfErr result S
err_three (Ok a) P Q R S says p q r = tt
err_three (Err e) P Q R S says p q r = says e p q r

pub err_four : {A E : Type 0} (result : Result A E) (P Q R S T : E → Type 0) → ((e : E) → P e → Q e → R e → S e → T e) → IfErr result P → IfErr result Q → IfErr result R → IfErr result S → IfErr result T
err_four (Ok a) P Q R S T says p q r s = tt
err_four (Err e) P Q R S T says p q r s = says e p q r s

pub on_err_more : {A E : Type 0} (result : Result A E) (P Q : Type 0) → (P → Q) → OnErr result P → OnErr result Q
on_err_more (Ok a) P Q more p = tt
on_err_more (Err e) P Q more p = more p

pub ok_each : {A E : Type 0} (result : Result A E) (P Q R S : A → Type 0) (Y : E → Type 0) → ((a : A) → P a → Q a → R a → S a) → IfOk result P → IfOk result Q → MatchResult result R Y → IfOk result S
ok_each (Ok a) P Q R S Y says p q r = says a p q r
ok_each (Err e) P Q R S Y says p q r = tt

pub err_each : {A E : Type 0} (result : Result A E) (X : A → Type 0) (P Q R S T : E → Type 0) → ((e : E) → P e → Q e → R e → S e → T e) → IfErr result P → IfErr result Q → IfErr result R → MatchResult result X S → IfErr result T
err_each (Ok a) X P Q R S T says p q r s = tt
err_each (Err e) X P Q R S T says p q r s = says e p q r s
